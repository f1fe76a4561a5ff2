use Rattle.std.proofs.Common.{◌<◌, length, refl, arith}
use Rattle.std.proofs.lemmas.Option.{slice_get_read}
use Rattle.rma_call.proofs.EntryLemmas.{as_many, joined_at}
use Rattle.rma_call.proofs.entries.Entries.get.Goals as goal

pub index-detail-requires : goal.index-detail-requires
index-detail-requires c =
    let own = c.self.inside in
    let below : c.args.i < length own.whats.items = rw (← c.self.view_is, as_many own.whats.items own.details.items c.self.invariant) at c.requires in
    omega (arith, below, c.self.invariant)

pub index-requires : goal.index-requires
index-requires c =
    let own = c.self.inside in
    let below : c.args.i < length own.whats.items = rw (← c.self.view_is, as_many own.whats.items own.details.items c.self.invariant) at c.requires in
    omega (arith, below)

pub returns : goal.returns
returns c =
    let own = c.self.inside in
    let below : c.args.i < length own.whats.items = rw (← c.self.view_is, as_many own.whats.items own.details.items c.self.invariant) at c.requires in
    rw (← c.self.view_is)
    (joined_at own.whats.items own.details.items c.args.i c.index.result.now c.index-detail.result.now
    (slice_get_read own.whats.items (length own.whats.items) c.args.i c.index.result.now refl below c.index.ensures)
    (slice_get_read own.details.items (length own.details.items) c.args.i c.index-detail.result.now refl (omega (arith, below, c.self.invariant)) c.index-detail.ensures))
