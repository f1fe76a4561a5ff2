use Rattle.std.proofs.Common.{◌≡◌, Err, Ok, ap, ◌∙◌}
use Rattle.std.specs.List.Sorted.{IsBinarySearchResult}
use Rattle.std.specs.Ordering.{nat_cmp}
use Rattle.rma_cells.proofs.IdLemmas.{remove_up, removed_has, found_at, not_found}
use Rattle.rma_cells.proofs.cell.Cell.remove.Goals as goal

pub returns-in-Ok-clause-ascending : goal.returns-in-Ok-clause-ascending
returns-in-Ok-clause-ascending c =
    let ids = c.args.self.now.ids in
    let kept : c.self.inside.ids.items ≡ ids = ap (λ x. x.ids) c.self.view_is in
    let read : c.as_slice.result.now ≡ ids = c.as_slice.ensures ∙ kept in
    let result : IsBinarySearchResult (λ y. nat_cmp y c.args.id) ids (Ok c.in-Ok.i) = rw (← read) c.in-Ok.ensures.position in
    let at = found_at ids c.in-Ok.i c.args.id c.requires result in
    rw c.remove.ensures.items (rw kept (remove_up ids c.in-Ok.i c.requires at.0))

pub returns-in-Ok-clause-ids : goal.returns-in-Ok-clause-ids
returns-in-Ok-clause-ids c other =
    let ids = c.args.self.now.ids in
    let kept : c.self.inside.ids.items ≡ ids = ap (λ x. x.ids) c.self.view_is in
    let read : c.as_slice.result.now ≡ ids = c.as_slice.ensures ∙ kept in
    let result : IsBinarySearchResult (λ y. nat_cmp y c.args.id) ids (Ok c.in-Ok.i) = rw (← read) c.in-Ok.ensures.position in
    removed_has ids c.remove.new.self.items c.in-Ok.i c.args.id c.requires result (rw (← kept) c.remove.ensures.items) other

pub returns-in_default-clause-ids : goal.returns-in_default-clause-ids
returns-in_default-clause-ids c other =
    let ids = c.args.self.now.ids in
    let read : c.as_slice.result.now ≡ ids = c.as_slice.ensures ∙ ap (λ x. x.ids) c.self.view_is in
    let result : IsBinarySearchResult (λ y. nat_cmp y c.args.id) ids (Err c.in_default.field-0) = rw (← read) c.in_default.ensures.position in
    (λ has. (has, λ e. not_found ids c.in_default.field-0 c.args.id c.requires result (rw (← e) has)), λ both. both.0)
