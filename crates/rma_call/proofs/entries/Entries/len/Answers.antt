use Rattle.std.proofs.Common.{arith}
use Rattle.rma_call.proofs.EntryLemmas.{as_many}
use Rattle.rma_call.proofs.entries.Entries.len.Goals as goal

pub returns : goal.returns
returns c =
    let own = c.self.inside in
    rw (← c.self.view_is, as_many own.whats.items own.details.items c.self.invariant) (omega (arith, c.len.ensures))
