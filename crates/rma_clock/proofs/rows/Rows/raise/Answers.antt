use Rattle.std.proofs.Common.{◌≡◌, ◌<◌, ◌≤◌, length, max, sym, ap, ◌∙◌, arith, ⊎_elim}
use Rattle.std.specs.Prelude.{slice_index}
use Rattle.std.proofs.lemmas.Bool.{cases_lt}
use Rattle.std.proofs.lemmas.List.{get_or_past}
use Rattle.rma_clock.specs.inside.Table.{row_at}
use Rattle.rma_clock.proofs.StoredLemmas.{read_found, read_number}
use Rattle.rma_clock.proofs.rows.Rows.raise.Goals as goal

pub raise_stored-requires : goal.raise_stored-requires
raise_stored-requires c i inside =
    let in_ = c.self.inside in
    let size = c.requires.size in
    rw (c.deref.ensures.value, c.deref-2.ensures.value, c.deref-3.ensures.value)
    (read_found in_.numbers.items in_.lower.items in_.upper.items in_.places.items c.args.self.now c.self.view_is c.args.index c.index-place.result.now c.index-place.ensures c.requires.index c.self.invariant i (omega arith))

pub returns-clause-each : goal.returns-clause-each
returns-clause-each c rank =
    let in_ = c.self.inside in
    let row = row_at c.args.self.now c.args.index in
    let size = c.requires.size in
    let new_size = c.raise_stored.ensures.size in
    ⊎_elim
    (λ (there : rank < length c.args.row.now).
    (rw (c.deref.ensures.value, c.deref-2.ensures.value, c.deref-3.ensures.value) at (c.raise_stored.ensures.each rank there))
    ∙ ap (max (slice_index c.args.row.now rank)) (sym (read_number in_.numbers.items in_.lower.items in_.upper.items in_.places.items c.args.self.now c.self.view_is c.args.index c.index-place.result.now c.index-place.ensures c.requires.index rank (omega arith))))
    (λ (past : length c.args.row.now ≤ rank).
    let none : slice_index c.args.row.now rank ≡ 0 = get_or_past c.args.row.now rank 0 past in
    let none_new : slice_index c.raise_stored.new.row rank ≡ 0 = get_or_past c.raise_stored.new.row rank 0 (omega arith) in
    let none_other : slice_index row rank ≡ 0 = get_or_past row rank 0 (omega arith) in
    omega arith)
    (cases_lt rank (length c.args.row.now))
