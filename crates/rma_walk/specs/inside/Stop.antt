-- Where ranks stop.
use Rattle.std.specs.Prelude.{ℕ, ◌≡◌, ◌≢◌, ◌<◌, ◌*◌, ◌/◌, List, Option, Some, None, length, slice_index, slice_get, nat_lt, if◌then◌else◌}

-- the call at this position of a rank that makes so many, and none past the last one
abbrev pub stopped_at : ℕ → ℕ → Option ℕ
stopped_at len next = if nat_lt next (2 * len) then Some (next / 2) else None

-- each rank is past its last call, by its next position
abbrev pub IsWhole : List ℕ → List ℕ → Type 0
IsWhole lens next = (rank : ℕ) → rank < length lens → slice_index next rank ≡ 2 * slice_index lens rank

-- some rank is not past its last call, and by rank these are the calls that it does not leave
pub record AreStops (lens next : List ℕ) (stops : List (Option ℕ)) : Type 0 where
  pub part : (rank : ℕ) × (rank < length lens) × (slice_index next rank ≢ 2 * slice_index lens rank)
  pub each : length stops ≡ length lens
  pub at : (rank : ℕ) → rank < length lens → slice_get stops rank ≡ Some (stopped_at (slice_index lens rank) (slice_index next rank))
