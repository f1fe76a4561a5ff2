use Rattle.std.proofs.Common.{◌≡◌, ◌<◌, ◌≤◌, ℕ, Some, length, slice_get}
use Rattle.rma_base.specs.Limits.{fed_limit}
use Rattle.rma_call.specs.Call.{RankCalls}
use Rattle.rma_run.proofs.run.is_run.Given as goal

abbrev pub invariant-loop-index : goal.invariant-loop-index
invariant-loop-index l = (i : ℕ) (own : RankCalls) → i < l.index → slice_get l.ranks i ≡ Some own → (own.rank.0 ≡ i) × (length own.calls ≤ fed_limit)
