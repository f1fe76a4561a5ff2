use Rattle.std.proofs.Common.{◌++◌, [], length, refl, ◌∙◌, ap}
use Rattle.std.specs.List.{cons_option}
use Rattle.std.proofs.lemmas.Option.{slice_get_read}
use Rattle.rma_member.specs.Difference.{difference}
use Rattle.rma_run.proofs.WalkLemmas.{filter_map_taken}
use Rattle.rma_member.proofs.difference.differences.Goals as goal

pub loop-declaration-preserved : goal.loop-declaration-preserved
loop-declaration-preserved g c =
    let own = difference g.T.Attributes.agrees c.args.reason c.args.declarations.now in
    let declarations = c.as_slice-declaration-items.result.now in
    let declaration = c.declaration-item.result in
    c.in-Ok.ensures
    ∙ ap (λ fault. c.loop-declaration.faults ++ cons_option fault []) c.difference.ensures
    ∙ ap (λ faults. faults ++ cons_option (own declaration) []) c.loop-declaration.invariant
    ∙ filter_map_taken own declarations c.loop-declaration.declaration-index declaration []
    (slice_get_read declarations (length declarations) c.loop-declaration.declaration-index declaration refl c.loop-declaration-test.true c.declaration-item.is)
