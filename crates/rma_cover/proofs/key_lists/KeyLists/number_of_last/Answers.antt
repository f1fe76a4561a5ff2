use Rattle.std.proofs.Common.{rules}
use Rattle.std.proofs.lemmas.Slice.Eq.{slice_eq-Decides}
use Rattle.rma_cover.proofs.ListLemmas.{told_last}
use Rattle.rma_cover.proofs.key_lists.KeyLists.number_of_last.Goals as goal

pub returns : goal.returns
returns c =
    rw
    c.then_some.ensures
    (told_last
    c.args.self.now
    c.in_ok-last.last
    c.list.result.now
    c.args.list.now
    c.eq-is_same.result
    (slice_eq-Decides (λ a b. search rules) c.list.result.now c.args.list.now c.eq-is_same.result c.eq-is_same.ensures)
    (record { ends = c.in_ok-last.ensures.last; there = c.list.ensures }))
