use Rattle.std.proofs.Common.{◌≡◌, rules}
use Rattle.std.proofs.lemmas.Fn.{always_returns_same}
use Rattle.rma_rules.specs.declared.span.LockSpan.{LockSpan}
use Rattle.rma_assert.proofs.LockLemmas.{rise_from_sort}
use Rattle.rma_assert.proofs.locks.sort.Goals as goal

pub returns-clause-rise : goal.returns-clause-rise
returns-clause-rise c = rise_from_sort _ (c.sort_unstable_by_key.ensures.sorted (λ (own : LockSpan). own.window.0) (always_returns_same _ (λ a r. r ≡ a.0.now.window.0) _ (λ a r f k. search rules)))
