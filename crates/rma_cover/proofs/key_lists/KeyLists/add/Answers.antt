use Rattle.std.proofs.Common.{◌≡◌, ◌++◌, ◌∷◌, [], length, ap, ◌∙◌, arith}
use Rattle.std.proofs.lemmas.Grind.{common_steps}
use Rattle.rma_cover.proofs.ListLemmas.{lists_more}
use Rattle.rma_cover.proofs.key_lists.KeyLists.add.Goals as goal

pub returns-clause-list : goal.returns-clause-list
returns-clause-list c =
    let own = c.self.inside in
    let begins : c.in_ok-start.start ≡ length own.keys.items = grind (arith, common_steps) in
    let ends : c.in_ok-end.end ≡ length (own.keys.items ++ c.args.list.now) = grind (arith, common_steps) in
    rw
    (c.in_ok-extend_from_slice.ensures.items, c.in_ok-push.ensures.items)
    (lists_more own.keys.items c.args.list.now own.ranges.items (record { start = c.in_ok-start.start; end = c.in_ok-end.end }) c.self.invariant.ranges_are_in begins ends
    ∙ ap (λ ls. ls ++ c.args.list.now ∷ []) c.self.view_is)
