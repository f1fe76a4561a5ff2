-- The points that a walk is past, in the order in which it passed them.
use Rattle.std.specs.Prelude.{ℕ, ◌≡◌, ◌<◌, ◌≤◌, ◌*◌, List, Option, Some, None, length, slice_index, slice_set, is_some}
use Rattle.rma_base.specs.declared.point.Point.{Point}
use Rattle.rma_link.specs.declared.links.Links.{Links}
use Rattle.rma_link.specs.Order.{IsDirectlyBefore}
use Rattle.rma_walk.specs.Outcome.{IsAt}
use Rattle.rma_walk.specs.inside.Run.{IsPassed}
use Rattle.rma_walk.specs.declared.front.Front.{Front}

-- each stands there once, after the points directly before it
pub record IsFront (lens : List ℕ) (links : Links) (next : List ℕ) (order : List Point) : Type 0 where
  pub ranks : length next ≡ length lens
  pub within : (rank : ℕ) → slice_index next rank ≤ 2 * slice_index lens rank
  pub listed : (p : Point) → IsPassed next p → (k : ℕ) × IsAt order k p
  pub only : (k : ℕ) (p : Point) → IsAt order k p → IsPassed next p
  pub once : (j k : ℕ) (p : Point) → IsAt order j p → IsAt order k p → j ≡ k
  pub ordered : (k : ℕ) (p q : Point) → IsAt order k q → IsDirectlyBefore links p q → (j : ℕ) × (j < k) × IsAt order j p

-- the points are kept, or none are
abbrev pub IsKept : Option (List Point) → List Point → Type 0
IsKept None order = Unit {0}
IsKept (Some kept) order = kept ≡ order

-- one rank is past more points, the others are where they were
pub record HasAdvanced (lens : List ℕ) (links : Links) (rank : ℕ) (old new : Front) : Type 0 where
  pub pos : ℕ
  pub next : new.next.items ≡ slice_set old.next.items rank pos
  pub more : slice_index old.next.items rank < pos
  pub front : (order : List Point) → IsFront lens links old.next.items order → IsKept old.order order
      → (later : List Point) × IsFront lens links new.next.items later × IsKept new.order later
  pub keeps : is_some new.order ≡ is_some old.order
