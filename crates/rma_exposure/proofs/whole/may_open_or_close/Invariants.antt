use Rattle.std.proofs.Common.{◌≡◌, ◌<◌, ℕ, Some, slice_get}
use Rattle.rma_call.specs.declared.what.What.{What}
use Rattle.rma_exposure.specs.inside.Epochs.{IsNeither}
use Rattle.rma_exposure.proofs.whole.may_open_or_close.Given as goal

-- what calls do that have the numbers before opens and closes nothing
abbrev pub invariant-loop-number : goal.invariant-loop-number
invariant-loop-number l = (number : ℕ) → number < l.number → (what : What) → slice_get l.calls.whats number ≡ Some what → IsNeither what
