use Rattle.std.proofs.Common.{Some, option_map, sym, ap, ◌∙◌}
use Rattle.rma_type.specs.Table.{typemaps}
use Rattle.rma_buffer.specs.Rules.{layout_reason}
use Rattle.rma_buffer.proofs.FaultLemmas.{first_reason, layouts_are, none_worse, worst_of_all}
use Rattle.rma_buffer.proofs.layouts.laid_out.Goals as goal

pub returns-in-Some-clause-fault : goal.returns-in-Some-clause-fault
returns-in-Some-clause-fault c =
    first_reason (typemaps c.args.table.now.origins) c.args.kind c.args.touched c.args.operands.now c.requires.few
    c.in_ok-target.target c.in_ok-origin.origin c.in_ok-result.result c.in_ok-compare.compare
    c.in_ok-target.ensures.placed (rw c.placed.ensures.same at c.in_ok-origin.ensures.placed)
    (rw (c.placed_origin.ensures.same, c.placed.ensures.same) at c.in_ok-result.ensures.placed)
    (rw (c.placed_if.ensures.same, c.placed_origin.ensures.same, c.placed.ensures.same) at c.in_ok-compare.ensures.placed)
    ∙ ap (option_map layout_reason)
    (sym (worst_of_all c.worse-2.ensures c.fault_of.ensures c.worse-others.ensures c.fault_if.ensures c.worse.ensures c.fault_if-2.ensures c.fault_if-3.ensures) ∙ c.in-Some.is)
    ∙ ap Some (sym c.layout_reason.ensures)

pub returns-in-Ok-clause-ok : goal.returns-in-Ok-clause-ok
returns-in-Ok-clause-ok c =
    rw (c.layout_if.ensures, c.layout_if-in-Ok.ensures, c.layout_if-in-Ok-2.ensures)
    (layouts_are (typemaps c.args.table.now.origins) c.args.kind c.args.touched c.args.operands.now
    c.in_ok-target.target c.in_ok-origin.origin c.in_ok-result.result c.in_ok-compare.compare c.in-Ok.target c.in-Ok.is
    c.in_ok-target.ensures.placed (rw c.placed.ensures.same at c.in_ok-origin.ensures.placed)
    (rw (c.placed_origin.ensures.same, c.placed.ensures.same) at c.in_ok-result.ensures.placed)
    (rw (c.placed_if.ensures.same, c.placed_origin.ensures.same, c.placed.ensures.same) at c.in_ok-compare.ensures.placed)
    (sym (worst_of_all c.worse-2.ensures c.fault_of.ensures c.worse-others.ensures c.fault_if.ensures c.worse.ensures c.fault_if-2.ensures c.fault_if-3.ensures) ∙ c.in_default.is))

pub returns-in-Ok-clause-taken : goal.returns-in-Ok-clause-taken
returns-in-Ok-clause-taken c =
    first_reason (typemaps c.args.table.now.origins) c.args.kind c.args.touched c.args.operands.now c.requires.few
    c.in_ok-target.target c.in_ok-origin.origin c.in_ok-result.result c.in_ok-compare.compare
    c.in_ok-target.ensures.placed (rw c.placed.ensures.same at c.in_ok-origin.ensures.placed)
    (rw (c.placed_origin.ensures.same, c.placed.ensures.same) at c.in_ok-result.ensures.placed)
    (rw (c.placed_if.ensures.same, c.placed_origin.ensures.same, c.placed.ensures.same) at c.in_ok-compare.ensures.placed)
    ∙ ap (option_map layout_reason)
    (sym (worst_of_all c.worse-2.ensures c.fault_of.ensures c.worse-others.ensures c.fault_if.ensures c.worse.ensures c.fault_if-2.ensures c.fault_if-3.ensures) ∙ c.in_default.is)

pub returns-in-Err-clause-fault : goal.returns-in-Err-clause-fault
returns-in-Err-clause-fault c =
    absurd (none_worse c.in-Err.fault c.worse-others.result (rw (c.worse-2.ensures, c.fault_of.ensures, c.in-Err.is) at c.in_default.is))
