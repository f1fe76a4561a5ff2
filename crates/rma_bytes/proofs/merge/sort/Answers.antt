use Rattle.rma_bytes.proofs.OrderLemmas.{ascend_from_sort}
use Rattle.std.proofs.lemmas.Fn.{always_returns_same}
use Rattle.std.proofs.lemmas.List.Sorted.{All-permutation}
use Rattle.rma_bytes.specs.declared.run.Run.{Run}
use Rattle.rma_bytes.specs.Runs.{IsInBounds}
use Rattle.rma_bytes.proofs.merge.sort.Goals as goal
use Rattle.std.proofs.Common.{◌≡◌, rules}

pub returns-clause-ascend : goal.returns-clause-ascend
returns-clause-ascend c =
    let sorted = c.sort_unstable_by_key.ensures.sorted (λ (run : Run). run.start) (always_returns_same _ (λ a r. r ≡ a.0.now.start) _ (λ a r f k. search rules)) in
    ascend_from_sort _ (All-permutation IsInBounds _ _ c.sort_unstable_by_key.ensures.permutation c.requires) sorted
