use Rattle.std.proofs.Common.{ℕ, ◌*◌, ◌<◌, ◌≤◌, slice_index}
use Rattle.rma_cut.proofs.closed.is_within.Given as goal

abbrev pub invariant-ranks : goal.invariant-ranks
invariant-ranks l = (k : ℕ) → k < l.rank → slice_index l.cut k ≤ 2 * slice_index l.lens k
