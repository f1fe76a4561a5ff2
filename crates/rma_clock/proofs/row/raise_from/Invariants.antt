use Rattle.std.proofs.Common.{◌≡◌, ◌+◌, ◌<◌, ◌≤◌, ℕ, max}
use Rattle.std.specs.Prelude.{slice_index}
use Rattle.rma_clock.proofs.row.raise_from.Given as goal

abbrev pub invariant-loop-k : goal.invariant-loop-k
invariant-loop-k l = record {
  part : (j : ℕ) → j < l.k → slice_index l.numbers (l.first + j) ≡ max (slice_index l.initial.numbers (l.first + j)) (slice_index l.others j);
  before : (rank : ℕ) → rank < l.first → slice_index l.numbers rank ≡ slice_index l.initial.numbers rank;
  after : (rank : ℕ) → l.first + l.k ≤ rank → slice_index l.numbers rank ≡ slice_index l.initial.numbers rank;
}
