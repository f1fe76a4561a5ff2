use Rattle.rma_call.specs.inside.Groups.{whats_at}
use Rattle.rma_call.proofs.CallListLemmas.{each_is_named}
use Rattle.rma_call.proofs.call_list.CallList.whats.Goals as goal

pub returns-clause-each : goal.returns-clause-each
returns-clause-each c = λ i call at.
    let own = c.self.inside in
    rw (← c.self.view_is) (each_is_named (whats_at own.groups own.places.items) own.sites.items own.entries c.self.invariant.0.below i call (rw (← c.self.view_is) at at))
