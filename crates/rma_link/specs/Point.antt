-- The points of a run: the entry and the return of each call (MPI 4.0, "MPI Terms and Conventions").
use Rattle.std.specs.Prelude.{ℕ, ◌≡◌, ◌+◌, ◌*◌, ◌<◌, List, slice_index}
use Rattle.rma_base.specs.declared.rank.Rank.{Rank}
use Rattle.rma_base.specs.declared.point.Point.{Point}

-- where a rank enters its call of this number
abbrev pub entry : Rank → ℕ → Point
entry rank call = record { rank = rank; pos = 2 * call }

-- where a rank returns from its call of this number
abbrev pub return_of : Rank → ℕ → Point
return_of rank call = record { rank = rank; pos = 2 * call + 1 }

-- how many calls a rank makes, by the numbers of calls of all ranks
abbrev pub calls_of : List ℕ → Rank → ℕ
calls_of lens rank = slice_index lens rank.0

-- a point of a run whose ranks make so many calls
abbrev pub IsPoint : List ℕ → Point → Type 0
IsPoint lens point = point.pos < 2 * calls_of lens point.rank

-- the entry of a call of the run
abbrev pub IsEntry : List ℕ → Point → Type 0
IsEntry lens point = (call : ℕ) × (call < calls_of lens point.rank) × (point.pos ≡ 2 * call)

-- the return of a call of the run
abbrev pub IsReturn : List ℕ → Point → Type 0
IsReturn lens point = (call : ℕ) × (call < calls_of lens point.rank) × (point.pos ≡ 2 * call + 1)
