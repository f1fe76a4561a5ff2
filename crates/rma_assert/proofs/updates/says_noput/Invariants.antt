use Rattle.std.proofs.Common.{◌≡◌, ◌<◌, ℕ, false, Some, slice_get}
use Rattle.rma_call.specs.declared.what.What.{What}
use Rattle.rma_assert.specs.Asserted.{assertions_of}
use Rattle.rma_assert.proofs.updates.says_noput.Given as goal

-- what has one of the numbers before does not say it
abbrev pub invariant-loop-number : goal.invariant-loop-number
invariant-loop-number l = (k : ℕ) (what : What) → k < l.number → slice_get l.calls.whats k ≡ Some what → (assertions_of what).noput ≡ false
