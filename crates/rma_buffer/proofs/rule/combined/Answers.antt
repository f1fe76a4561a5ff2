use Rattle.std.proofs.Common.{◌≡◌, [], ◌++◌, flat_map, option_to_list, if◌then◌else◌, subst, sym, ◌∙◌}
use Rattle.rma_type.specs.Signature.{IsComponentOf}
use Rattle.rma_type.specs.Table.{typemaps}
use Rattle.rma_buffer.specs.Rules.{basics_in, is_no_op}
use Rattle.rma_buffer.proofs.OperandLemmas.{chosen_none, chosen_some}
use Rattle.rma_buffer.proofs.rule.combined.Goals as goal
use Rattle.rma_buffer.proofs.rule.combined.Goals.{then-is_no_op, else-is_no_op}

pub returns : goal.returns
returns c =
    let basics = basics_in (typemaps c.args.types.now.origins) in
    let it = c.args.operands.now in
    let leaves = is_no_op c.args.operation in
    let chosen : flat_map basics (option_to_list c.if-is_no_op.origin) ≡ (if leaves then [] else basics it.origin) = elim c.if-is_no_op.branch [
      | then-is_no_op w ↦ chosen_none basics leaves it.origin c.if-is_no_op.origin w.origin-is (sym c.is_no_op.ensures ∙ w.if-is_no_op.true)
      | else-is_no_op w ↦ chosen_some basics leaves it.origin c.if-is_no_op.origin w.origin-is (sym c.is_no_op.ensures ∙ w.if-is_no_op.false)
    ] in
    subst (λ xs. IsComponentOf (basics it.target ++ (xs ++ flat_map basics (option_to_list it.result))) c.joined.result) chosen
    (c.joined.ensures _ _ c.component-target.ensures (c.joined-others.ensures _ _ c.component_if.ensures c.component_if-2.ensures))
