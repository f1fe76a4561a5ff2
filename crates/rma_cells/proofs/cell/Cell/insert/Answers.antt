use Rattle.std.proofs.Common.{◌≡◌, Err, ap, ◌∙◌}
use Rattle.std.specs.List.Sorted.{IsBinarySearchResult}
use Rattle.std.specs.Ordering.{nat_cmp}
use Rattle.rma_cells.proofs.IdLemmas.{inserted_up, insert_has}
use Rattle.rma_cells.proofs.cell.Cell.insert.Goals as goal

pub returns-in_ok-insert-clause-ascending : goal.returns-in_ok-insert-clause-ascending
returns-in_ok-insert-clause-ascending c =
    let ids = c.args.self.now.ids in
    let kept : c.self.inside.ids.items ≡ ids = ap (λ x. x.ids) c.self.view_is in
    let read : c.as_slice.result.now ≡ ids = c.as_slice.ensures ∙ kept in
    let result : IsBinarySearchResult (λ y. nat_cmp y c.args.id) ids (Err c.in-Err.i) = rw (← read) c.in-Err.ensures.position in
    inserted_up ids c.insert.new.self.items c.in-Err.i c.args.id c.requires result (rw (← kept) c.in_ok-insert.ensures.ok)

pub returns-in_ok-insert-clause-ids : goal.returns-in_ok-insert-clause-ids
returns-in_ok-insert-clause-ids c other =
    let kept : c.self.inside.ids.items ≡ c.args.self.now.ids = ap (λ x. x.ids) c.self.view_is in
    rw c.in_ok-insert.ensures.ok (rw kept (insert_has c.args.self.now.ids c.in-Err.i c.args.id other))
