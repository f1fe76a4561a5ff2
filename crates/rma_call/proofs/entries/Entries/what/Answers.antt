use Rattle.std.proofs.Common.{◌<◌, length, refl, arith}
use Rattle.std.proofs.lemmas.Option.{slice_get_read}
use Rattle.rma_call.proofs.EntryLemmas.{as_many, what_there}
use Rattle.rma_call.proofs.entries.Entries.what.Goals as goal

pub index-requires : goal.index-requires
index-requires c =
    let own = c.self.inside in
    let below : c.args.i < length own.whats.items = rw (← c.self.view_is, as_many own.whats.items own.details.items c.self.invariant) at c.requires in
    omega (arith, below)

pub returns : goal.returns
returns c =
    let own = c.self.inside in
    let below : c.args.i < length own.whats.items = rw (← c.self.view_is, as_many own.whats.items own.details.items c.self.invariant) at c.requires in
    rw (← c.self.view_is)
    (what_there own.whats.items own.details.items c.args.i c.index.result.now c.self.invariant
    (slice_get_read own.whats.items (length own.whats.items) c.args.i c.index.result.now refl below c.index.ensures))
