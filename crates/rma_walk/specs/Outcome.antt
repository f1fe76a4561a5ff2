-- What a walk over the points of a run comes to: an order of them, or the calls that are never left (MPI 4.0, "MPI Terms and
-- Conventions" and "One-Sided Communications").
use Rattle.std.specs.Prelude.{ℕ, ◌≡◌, ◌<◌, ◌≤◌, ◌⊎◌, List, Option, Some, None, length, slice_index, slice_get}
use Rattle.rma_base.specs.declared.rank.Rank.{Rank}
use Rattle.rma_base.specs.declared.point.Point.{Point}
use Rattle.rma_link.specs.declared.links.Links.{Links}
use Rattle.rma_link.specs.Point.{entry, return_of, IsPoint}
use Rattle.rma_link.specs.Order.{IsAtOrBefore, IsOnCycle, IsAfterCycle, IsPossible}
use Rattle.rma_walk.specs.declared.walked.Walked.{Walked}
use Rattle.rma_walk.specs.declared.walked.Walked.TheVariants.{Order, Stuck}

-- the point stands in the list at this index
abbrev pub IsAt : List Point → ℕ → Point → Type 0
IsAt list index point = slice_get list index ≡ Some point

-- a list has each point of the run once, after all points that are ordered before it
pub record IsOrder (lens : List ℕ) (links : Links) (list : List Point) : Type 0 where
  pub listed : (p : Point) → IsPoint lens p → (k : ℕ) × IsAt list k p
  pub only : (k : ℕ) (p : Point) → IsAt list k p → IsPoint lens p
  pub once : (j k : ℕ) (p : Point) → IsAt list j p → IsAt list k p → j ≡ k
  pub ordered : (j k : ℕ) (p q : Point) → IsAt list j p → IsAt list k q → IsAtOrBefore links p q → j ≤ k

-- a call is never left: it has a point at or after a cycle
abbrev pub IsImpossible : Links → Rank → ℕ → Type 0
IsImpossible links rank call = IsAfterCycle links (entry rank call) ⊎ IsAfterCycle links (return_of rank call)

-- the first such call of a rank that makes so many calls, if it has one
abbrev pub IsFirstImpossible : Links → Rank → ℕ → Option ℕ → Type 0
IsFirstImpossible links rank len None = (call : ℕ) → call < len → IsImpossible links rank call → ⊥
IsFirstImpossible links rank len (Some first) =
    (first < len) × IsImpossible links rank first × ((call : ℕ) → call < first → IsImpossible links rank call → ⊥)

-- the first such calls of all ranks
pub record AreFirstImpossible (lens : List ℕ) (links : Links) (firsts : List (Option ℕ)) : Type 0 where
  pub each : length firsts ≡ length lens
  pub first : (rank : ℕ) (call : Option ℕ) → slice_get firsts rank ≡ Some call → IsFirstImpossible links (record { 0 = rank }) (slice_index lens rank) call

-- two different points are each before the other, and these are the first calls that are never left
abbrev pub IsStuck : List ℕ → Links → List (Option ℕ) → Type 0
IsStuck lens links firsts = ((p : Point) × IsOnCycle links p) × AreFirstImpossible lens links firsts

-- a possible run has an order; any other one is stuck
abbrev pub IsOutcome : List ℕ → Links → Walked → Type 0
IsOutcome lens links (Order list) = IsPossible links × IsOrder lens links list
IsOutcome lens links (Stuck firsts) = IsStuck lens links firsts
