use Rattle.rma_chain.proofs.DeedLemmas.{found_conflicts, found_together, if_not}
use Rattle.rma_chain.proofs.deed.may_race.Goals as goal

pub returns-then-is_some-clause-never : goal.returns-then-is_some-clause-never
returns-then-is_some-clause-never c = λ links spans other race same found.
    if_not
    c.any_exclude_ranks.result
    (λ yes. found_together links c.args.windows.now spans c.args.a.now other c.args.b.now same race found (rw (← c.a.view_is, ← c.b.view_is) (c.any_exclude_ranks.ensures.0 yes)))

pub returns-else-is_some-clause-never : goal.returns-else-is_some-clause-never
returns-else-is_some-clause-never c = λ links spans other race same found.
    let conflict = found_conflicts links c.args.windows.now spans c.args.a.now other c.args.b.now same race found in
    let some = (c.forbids.ensures.some race.rule).1 conflict in
    cc
