use Rattle.std.proofs.Common.{◌∙◌, sym}
use Rattle.rma_clock.proofs.StoredLemmas.{read_found, read_number}
use Rattle.rma_clock.proofs.rows.Rows.number.Goals as goal

pub stored_number-requires : goal.stored_number-requires
stored_number-requires c =
    let in_ = c.self.inside in
    rw (c.deref.ensures.value, c.deref-2.ensures.value, c.deref-3.ensures.value)
    (read_found in_.numbers.items in_.lower.items in_.upper.items in_.places.items c.args.self.now c.self.view_is c.args.row c.index-place.result.now c.index-place.ensures c.requires.row c.self.invariant c.args.rank c.requires.rank)

pub returns : goal.returns
returns c =
    let in_ = c.self.inside in
    (rw (c.deref.ensures.value, c.deref-2.ensures.value, c.deref-3.ensures.value) at c.stored_number.ensures)
    ∙ sym (read_number in_.numbers.items in_.lower.items in_.upper.items in_.places.items c.args.self.now c.self.view_is c.args.row c.index-place.result.now c.index-place.ensures c.requires.row c.args.rank c.requires.rank)
