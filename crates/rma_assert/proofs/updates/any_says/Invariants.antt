use Rattle.std.proofs.Common.{◌≡◌, ◌<◌, ℕ, false, Some, Contains, slice_get}
use Rattle.rma_call.specs.Call.{Call, RankCalls}
use Rattle.rma_assert.specs.Asserted.{assertions_of}
use Rattle.rma_assert.proofs.updates.any_says.Given as goal

-- none of the ranks before says it
abbrev pub invariant-loop-own : goal.invariant-loop-own
invariant-loop-own l = (k : ℕ) (own : RankCalls) (call : Call) → k < l.own-index → slice_get l.ranks k ≡ Some own → Contains own.calls call → (assertions_of call.what).noput ≡ false
