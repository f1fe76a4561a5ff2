use Rattle.std.proofs.Common.{◌≡◌, ◌-◌, ◌*◌, ◌/◌, ◌<◌, ◌≤◌, ℕ, length, max}
use Rattle.std.specs.Prelude.{slice_index}
use Rattle.rma_clock.specs.inside.Rows.{number_at}
use Rattle.rma_clock.proofs.rows.raise_stored.Given as goal

abbrev pub invariant-loop-at : goal.invariant-loop-at
invariant-loop-at l = record {
  wide : l.width ≡ length l.row;
  size : length l.row ≡ length l.initial.row;
  within : l.at ≤ l.width;
  here : l.at < l.width → 16 * (l.at / 16) ≡ l.at;
  raised : (i : ℕ) → i < l.at → slice_index l.row i ≡ max (slice_index l.initial.row i) (number_at l.numbers l.lower l.upper l.start i);
  rest : (i : ℕ) → l.at ≤ i → slice_index l.row i ≡ slice_index l.initial.row i;
}

abbrev pub decreases-loop-at : goal.decreases-loop-at
decreases-loop-at l = l.width - l.at
