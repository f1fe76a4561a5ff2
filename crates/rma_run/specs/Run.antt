-- The calls of the ranks of a run.
use Rattle.std.specs.Prelude.{◌≡◌, ◌≤◌, ◌==◌, ◌+◌, ℕ, List, [], ◌∷◌, ◌++◌, length, map, Some, slice_get, if◌then◌else◌}
use Rattle.std.specs.List.{flat_map}
use Rattle.std.specs.Option.{option_map_or}
use Rattle.rma_base.specs.Limits.{fed_limit}
use Rattle.rma_base.specs.declared.rank.Rank.{Rank}
use Rattle.rma_call.specs.Call.{Call, RankCalls}

-- the i-th log is that of rank i
abbrev pub AreInOrder : List RankCalls → Type 0
AreInOrder ranks = (i : ℕ) (own : RankCalls) → slice_get ranks i ≡ Some own → own.rank.0 ≡ i

-- that is so, and no log has more calls than there may be
pub record IsRun (ranks : List RankCalls) : Type 0 where
  pub in_order : AreInOrder ranks
  pub few : (i : ℕ) (own : RankCalls) → slice_get ranks i ≡ Some own → length own.calls ≤ fed_limit

-- the calls of each rank of a run, where the i-th log is that of rank i; a rank beyond the run makes none
abbrev pub calls_of : List RankCalls → ℕ → List Call
calls_of ranks rank = option_map_or (λ r. r.calls) (slice_get ranks rank) []

-- the calls of the ranks, with more of one rank
abbrev pub with_calls : (ℕ → List Call) → ℕ → List Call → ℕ → List Call
with_calls calls rank more other = if rank == other then calls other ++ more else calls other

-- how many calls each rank makes
abbrev pub lens_of : List RankCalls → List ℕ
lens_of ranks = map (λ r. length r.calls) ranks

-- what is had of each of a rank's calls, by its number; the first of them has this number
abbrev pub by_number : {Y : Type 0} → (ℕ → Call → List Y) → ℕ → List Call → List Y
by_number f number [] = []
by_number f number (call ∷ calls) = f number call ++ by_number f (number + 1) calls

-- what is had of each call of a run, by rank and then by line
abbrev pub by_rank : {Y : Type 0} → (Rank → ℕ → Call → List Y) → List RankCalls → List Y
by_rank f ranks = flat_map (λ r. by_number (f r.rank) 0 r.calls) ranks
