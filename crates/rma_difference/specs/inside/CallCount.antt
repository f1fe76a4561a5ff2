-- How many calls each rank makes on a name, counted rank by rank.
use Rattle.std.specs.Prelude.{◌≡◌, ℕ, ◌+◌, ◌<◌, ◌≤◌, List, [], ◌∷◌, ◌++◌, ◌==◌, max, if◌then◌else◌}
use Rattle.rma_difference.specs.declared.call_count.RankCount.{RankCount}
use Rattle.rma_difference.specs.declared.call_count.CallCounts.{CallCounts}

-- no calls
abbrev pub empty : CallCounts
empty = record { last = record { rank = 0; number = 0 }; before = []; largest = 0 }

-- a rank is the current one
abbrev pub with_current : CallCounts → ℕ → CallCounts
with_current t rank = if t.last.rank == rank then t else record { last = record { rank = rank; number = 0 }; before = t.before ++ t.last ∷ []; largest = t.largest }

-- the number of the next call of a rank
abbrev pub number_in : CallCounts → ℕ → ℕ
number_in t rank = (with_current t rank).last.number

-- one more call of the current rank
abbrev pub raised : CallCounts → CallCounts
raised t = record { last = record { rank = t.last.rank; number = t.last.number + 1 }; before = t.before; largest = max t.largest (t.last.number + 1) }

-- one more call of a rank
abbrev pub counted : CallCounts → ℕ → CallCounts
counted t rank = raised (with_current t rank)

-- the counts are no larger than the numbers of the ranks
abbrev pub AreWithin : (ℕ → ℕ) → List RankCount → Type 0
AreWithin f [] = Unit {0}
AreWithin f (t ∷ ts) = (t.number ≤ f t.rank) × AreWithin f ts

-- what is kept represents the numbers of calls of the ranks up to the current one
pub record AreCallCounts (f : ℕ → ℕ) (index : ℕ) (t : CallCounts) : Type 0 where
  pub last_is : t.last.number ≡ f t.last.rank
  pub later_are : (m : ℕ) → t.last.rank < m → f m ≡ 0
  pub before_are : AreWithin f t.before
  pub largest_is : (m : ℕ) → f m ≤ t.largest
  pub within : t.last.rank ≤ index
