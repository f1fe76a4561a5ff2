-- What rows of numbers say of points.
use Rattle.std.specs.Prelude.{ℕ, ◌≡◌, ◌<◌, ◌⊎◌, ◌+◌, List, Option, Some, None, length, slice_index, Contains}
use Rattle.rma_base.specs.declared.point.Point.{Point}
use Rattle.rma_link.specs.declared.meet.Member.{Member}
use Rattle.rma_link.specs.declared.links.Links.{Links}
use Rattle.rma_link.specs.Point.{entry}
use Rattle.rma_link.specs.Order.{IsDirectlyBefore, IsAtOrBefore}
use Rattle.rma_walk.specs.declared.source.Source.{Source}
use Rattle.rma_walk.specs.Source.{IsEntryOf}

-- a point by the number of its rank and its position
abbrev pub point_at : ℕ → ℕ → Point
point_at rank pos = record { rank = record { 0 = rank }; pos = pos }

-- it is one of the first points of its rank, as many as the row says
abbrev pub Covers : List ℕ → Point → Type 0
Covers row p = p.pos < slice_index row p.rank.0

-- a point is at or before one that comes directly before another
abbrev pub IsBefore : Links → Point → Point → Type 0
IsBefore links q p = (d : Point) × IsDirectlyBefore links d q × IsAtOrBefore links p d

-- a point is at or before an entry of a source
abbrev pub IsBeforeSource : Links → Source → Point → Type 0
IsBeforeSource links source p = (e : Point) × IsEntryOf links source e × IsAtOrBefore links p e

-- a point is at or before an entry of one of these sources
abbrev pub IsBeforeSome : Links → List Source → Point → Type 0
IsBeforeSome links sources p = (source : Source) × Contains sources source × IsBeforeSource links source p

-- a point is at or before the entry of one of these calls
abbrev pub IsBeforeMember : Links → List Member → Point → Type 0
IsBeforeMember links members p = (m : Member) × Contains members m × IsAtOrBefore links p (entry m.rank m.call)

-- a row covers these points and no others
pub record IsRow (IsIn : Point → Type 0) (row : List ℕ) : Type 0 where
  pub only : (p : Point) → Covers row p → IsIn p
  pub all : (p : Point) → IsIn p → Covers row p

-- a row is raised to cover these points too, and no others
pub record IsRaised (IsNew : Point → Type 0) (old new : List ℕ) : Type 0 where
  pub size : length new ≡ length old
  pub kept : (p : Point) → Covers old p → Covers new p
  pub added : (p : Point) → IsNew p → Covers new p
  pub only : (p : Point) → Covers new p → Covers old p ⊎ IsNew p

-- the last of so many positions, if there is one
abbrev pub IsLast : ℕ → Option ℕ → Type 0
IsLast number None = number ≡ 0
IsLast number (Some pos) = number ≡ pos + 1
