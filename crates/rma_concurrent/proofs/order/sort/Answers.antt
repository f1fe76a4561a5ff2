use Rattle.std.proofs.Common.{◌≡◌, rules}
use Rattle.std.specs.Ordering.{is_lt}
use Rattle.std.proofs.lemmas.Fn.{always_returns_same}
use Rattle.std.proofs.lemmas.List.Sorted.{ranks_by}
use Rattle.rma_concurrent.proofs.order.sort.Goals as goal

pub returns-clause-sorted : goal.returns-clause-sorted
returns-clause-sorted g c = λ is. c.sort_unstable_by.ensures.sorted (λ a b. is_lt (g.T.Reported.order a b)) (ranks_by is.total (λ (a : g.row.T.Denot). a)) (always_returns_same _ (λ a r. is_lt r ≡ is_lt (g.T.Reported.order a.0.now a.1.0.now)) _ (λ a r f k. search rules))
