use Rattle.std.proofs.Common.{Ok, Err, sym, ◌∙◌}
use Rattle.std.proofs.lemmas.List.Sorted.{searched, IsPermutation-insert}
use Rattle.rma_base.proofs.RankSetLemmas.{rises_to, has_number_at, has_number_between, increasing_insert, placed_insert}
use Rattle.rma_base.proofs.rank_set.place.Goals as goal

pub returns-in-Ok-clause-repeated : goal.returns-in-Ok-clause-repeated
returns-in-Ok-clause-repeated c _ =
    let found = searched c.args.numbers.now.items c.args.number (Ok c.in-Ok.field-0) (rw c.deref.ensures.value at c.in-Ok.ensures.position) (rises_to _ c.requires) in
    has_number_at _ _ _ found.0 found.1

pub returns-in-Ok-insert-clause-ascending : goal.returns-in-Ok-insert-clause-ascending
returns-in-Ok-insert-clause-ascending c =
    let place = searched c.args.numbers.now.items c.args.number (Err c.in-Err.index) (rw c.deref.ensures.value at c.in-Err.ensures.position) (rises_to _ c.requires) in
    rw c.in-Ok-insert.ensures.items (increasing_insert _ _ _ c.requires place.0 place.1 place.2)

pub returns-in-Ok-insert-clause-placed : goal.returns-in-Ok-insert-clause-placed
returns-in-Ok-insert-clause-placed c = rw c.in-Ok-insert.ensures.items (IsPermutation-insert _ _ _)

pub returns-in-Ok-insert-clause-is_new : goal.returns-in-Ok-insert-clause-is_new
returns-in-Ok-insert-clause-is_new c =
    let place = searched c.args.numbers.now.items c.args.number (Err c.in-Err.index) (rw c.deref.ensures.value at c.in-Err.ensures.position) (rises_to _ c.requires) in
    has_number_between _ _ c.in-Err.index place.1 place.2

pub returns-in-Ok-insert-clause-sorted : goal.returns-in-Ok-insert-clause-sorted
returns-in-Ok-insert-clause-sorted c =
    let place = searched c.args.numbers.now.items c.args.number (Err c.in-Err.index) (rw c.deref.ensures.value at c.in-Err.ensures.position) (rises_to _ c.requires) in
    c.in-Ok-insert.ensures.items ∙ sym (placed_insert c.args.numbers.now.items c.args.number c.in-Err.index place.0 place.1 place.2)
