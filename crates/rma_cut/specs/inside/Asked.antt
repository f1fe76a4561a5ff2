-- Up to two points, and how many points of a rank are before them.
use Rattle.std.specs.Prelude.{◌≡◌, ◌<◌, ◌≤◌, ◌⊎◌, ℕ, List, Option, Some}
use Rattle.rma_base.specs.declared.point.Point.{Point}
use Rattle.rma_link.specs.declared.links.Links.{Links}
use Rattle.rma_link.specs.Order.{IsAtOrBefore}
use Rattle.rma_window.specs.Windows.{Window}
use Rattle.rma_window.specs.declared.window_id.WindowId.{WindowId}
use Rattle.rma_rules.specs.Access.{Access}
use Rattle.rma_rules.specs.Before.{NeedsVisible}
use Rattle.rma_cut.specs.declared.search.Asked.{Asked}

-- a point is one of these
abbrev pub HasAsked : Asked → Point → Type 0
HasAsked asked p = (asked.one ≡ Some p) ⊎ (asked.other ≡ Some p)

-- a point is at or before one of these
abbrev pub IsBeforeAsked : Links → Asked → Point → Type 0
IsBeforeAsked links asked p = (q : Point) × HasAsked asked q × IsAtOrBefore links p q

-- a point is at or before this one, if it is given
abbrev pub IsBeforeOption : Links → Option Point → Point → Type 0
IsBeforeOption links given p = (q : Point) × (given ≡ Some q) × IsAtOrBefore links p q

-- of the first n points of a rank so many are such, and they are the first ones
pub record IsCount (IsIn : Point → Type 0) (rank n count : ℕ) : Type 0 where
  pub within : count ≤ n
  pub before : (pos : ℕ) → pos < count → IsIn (record { rank = record { 0 = rank }; pos = pos })
  pub after : (pos : ℕ) → count ≤ pos → pos < n → ¬ IsIn (record { rank = record { 0 = rank }; pos = pos })

-- the first access is an update that is done, and needs a call that makes it visible before the second
abbrev pub IsHeldBack : List Window → Access → Access → WindowId → Type 0
IsHeldBack windows a b window = (done : Point) × (a.done ≡ Some done) × NeedsVisible windows a b window
