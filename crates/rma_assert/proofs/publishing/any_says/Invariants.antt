use Rattle.std.proofs.Common.{◌≡◌, ◌<◌, ℕ, Some, slice_get}
use Rattle.rma_base.specs.declared.line.LineNo.{LineNo}
use Rattle.rma_assert.specs.inside.Stored.{SaysNostore}
use Rattle.rma_assert.proofs.publishing.any_says.Given as goal

-- none of those before says so
abbrev pub invariant-loop-number : goal.invariant-loop-number
invariant-loop-number l = (k number : ℕ) (line : LineNo) → k < l.number-index → slice_get l.numbers k ≡ Some number → SaysNostore l.calls.calls number line → ⊥
