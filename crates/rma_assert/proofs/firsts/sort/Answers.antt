use Rattle.std.proofs.Common.{◌≡◌, rules}
use Rattle.std.proofs.lemmas.Fn.{always_returns_same}
use Rattle.rma_assert.proofs.SortLemmas.{key_of, sorted_by_key}
use Rattle.rma_assert.proofs.firsts.sort.Goals as goal

pub returns-clause-sorted : goal.returns-clause-sorted
returns-clause-sorted c = sorted_by_key _ (c.sort_unstable_by_key.ensures.sorted key_of (always_returns_same _ (λ a r. r ≡ key_of a.0.now) _ (λ a r f k. search rules)))
