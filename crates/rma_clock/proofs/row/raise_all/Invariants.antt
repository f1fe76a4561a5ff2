use Rattle.std.proofs.Common.{◌≡◌, ◌<◌, ◌≤◌, ℕ, max}
use Rattle.std.specs.Prelude.{slice_index}
use Rattle.rma_clock.proofs.row.raise_all.Given as goal

abbrev pub invariant-loop-rank : goal.invariant-loop-rank
invariant-loop-rank l = record {
  raised : (k : ℕ) → k < l.rank → slice_index l.numbers k ≡ max (slice_index l.initial.numbers k) (slice_index l.others k);
  rest : (k : ℕ) → l.rank ≤ k → slice_index l.numbers k ≡ slice_index l.initial.numbers k;
}
