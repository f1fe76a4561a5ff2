use Rattle.std.proofs.Common.{◌≡◌, rules}
use Rattle.std.proofs.lemmas.Fn.{always_returns_same}
use Rattle.rma_dyn.proofs.SortLemmas.{key_of, rise_from_sort}
use Rattle.rma_dyn.proofs.sorted.sort.Goals as goal

pub returns-clause-rise : goal.returns-clause-rise
returns-clause-rise c = rise_from_sort _ (c.sort_unstable_by_key.ensures.sorted key_of (always_returns_same _ (λ a r. r ≡ key_of a.0.now) _ (λ a r f k. search rules)))
