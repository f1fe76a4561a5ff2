-- The order of the points of a run: happens-before, and runs that it rules out (MPI 4.0, "MPI Terms and Conventions" and
-- "One-Sided Communications").
use Rattle.std.specs.Prelude.{ℕ, ◌≡◌, ◌+◌, ◌⊎◌}
use Rattle.rma_base.specs.declared.rank.Rank.{Rank}
use Rattle.rma_base.specs.declared.point.Point.{Point}
use Rattle.rma_link.specs.declared.links.Links.{Links}
use Rattle.rma_link.specs.Point.{entry, return_of}
use Rattle.rma_link.specs.Link.{IsLinked}

-- a rank enters a call before it returns from it
abbrev pub IsWithinCall : Point → Point → Type 0
IsWithinCall p q = (rank : Rank) × (call : ℕ) × (p ≡ entry rank call) × (q ≡ return_of rank call)

-- it returns from a call before it enters the next one
abbrev pub IsToNextCall : Point → Point → Type 0
IsToNextCall p q = (rank : Rank) × (call : ℕ) × (p ≡ return_of rank call) × (q ≡ entry rank (call + 1))

-- one point comes directly before another, by the rank's own order or by a link
abbrev pub IsDirectlyBefore : Links → Point → Point → Type 0
IsDirectlyBefore links p q = IsWithinCall p q ⊎ (IsToNextCall p q ⊎ IsLinked links p q)

-- the order: the least relation, reflexive and transitive, in which such points stand
pub data IsAtOrBefore (links : Links) : Point → Point → Type 0 where
  at : {p : Point} → IsAtOrBefore links p p
  before : {p q r : Point} → IsAtOrBefore links p q → IsDirectlyBefore links q r → IsAtOrBefore links p r

-- a point on a cycle: it and another one are each before the other
abbrev pub IsOnCycle : Links → Point → Type 0
IsOnCycle links p = (q : Point) × (p ≡ q → ⊥) × IsAtOrBefore links p q × IsAtOrBefore links q p

-- a point that is never reached: it is at or after one on a cycle
abbrev pub IsAfterCycle : Links → Point → Type 0
IsAfterCycle links p = (q : Point) × IsOnCycle links q × IsAtOrBefore links q p

-- a run is possible where no two different points are each before the other
abbrev pub IsPossible : Links → Type 0
IsPossible links = (p : Point) → IsOnCycle links p → ⊥
