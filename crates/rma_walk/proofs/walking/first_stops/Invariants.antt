use Rattle.std.proofs.Common.{◌≡◌, ℕ, ◌<◌, length, Some}
use Rattle.std.specs.Prelude.{slice_index, slice_get}
use Rattle.rma_walk.specs.inside.Stop.{stopped_at}
use Rattle.rma_walk.proofs.walking.first_stops.Given as goal

abbrev pub invariant-loop-rank : goal.invariant-loop-rank
invariant-loop-rank l = record {
  size : length l.stops ≡ l.rank;
  each : (rank : ℕ) → rank < l.rank → slice_get l.stops rank ≡ Some (stopped_at (slice_index l.lens rank) (slice_index l.next rank));
}
