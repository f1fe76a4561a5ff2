use Rattle.std.proofs.Common.{sym}
use Rattle.rma_stream.proofs.ExplainLemmas.{chosen_is_found}
use Rattle.rma_stream.proofs.explain.cuts_at.Goals as goal

pub cuts_of_race-requires-clause-found : goal.cuts_of_race-requires-clause-found
cuts_of_race-requires-clause-found c =
    let at = sym (rw c.in-Some.is at c.race_at.ensures) in
    chosen_is_found c.args.calls.now c.requires.good.run.in_order c.args.accesses.now.lists c.requires.accesses.lists c.args.found.now c.requires.found c.args.number c.in-Some.race.now at
