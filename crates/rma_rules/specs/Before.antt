-- Which access is complete, and visible to another, before that starts (MPI 4.0, "One-Sided Communications", semantics and
-- correctness: where an update becomes visible in the private copy, and a store in the public one).
use Rattle.std.specs.Prelude.{◌≡◌, ◌<◌, ◌⊎◌, ℕ, List, Some, All, Contains, true}
use Rattle.rma_base.specs.declared.rank.Rank.{Rank}
use Rattle.rma_base.specs.declared.point.Point.{Point}
use Rattle.rma_link.specs.declared.links.Links.{Links}
use Rattle.rma_link.specs.Point.{entry, return_of}
use Rattle.rma_link.specs.Order.{IsAtOrBefore}
use Rattle.rma_clock.specs.Reached.{IsReached}
use Rattle.rma_window.specs.Windows.{Window}
use Rattle.rma_window.specs.declared.window_id.WindowId.{WindowId}
use Rattle.rma_rules.specs.Access.{Access}
use Rattle.rma_rules.specs.Kind.{is_own, is_store, is_target, is_update}
use Rattle.rma_rules.specs.Share.{IsThroughSeparate}
use Rattle.rma_rules.specs.Spans.{Spans, publishing_of, visible_of}

-- a point is at or before one at which an access starts
unfoldable pub IsBeforeStart : Links → Point → Access → Type 0
IsBeforeStart links p b = (start : Point) × Contains b.starts start × IsAtOrBefore links p start

-- an update through a window of the separate model stands in the public copy, and an access of the rank's own reads or writes the private one
unfoldable pub NeedsVisible : List Window → Access → Access → WindowId → Type 0
NeedsVisible windows a b window = (is_update a.kind ≡ true) × (is_own b.kind ≡ true) × IsThroughSeparate windows a window

-- a call of the rank before the access makes what was done by this point visible in the private copy
unfoldable pub IsMadeVisible : Links → Spans → Rank → WindowId → Point → ℕ → Type 0
IsMadeVisible links spans rank window done call = (v : ℕ) × Contains (visible_of spans rank window) v × (v < call) × IsAtOrBefore links done (return_of rank v)

-- a store stands in the private copy, and an access of a target through a window of the separate model reads or writes the public one
unfoldable pub NeedsPublished : List Window → Access → Access → WindowId → Type 0
NeedsPublished windows a b window = (is_store a.kind ≡ true) × (is_target b.kind ≡ true) × IsThroughSeparate windows b window

-- a call of the rank publishes what was done by this point, before the access starts
unfoldable pub IsPublished : Links → Spans → Rank → WindowId → Point → Access → Type 0
IsPublished links spans rank window done b =
    (v : ℕ) × Contains (publishing_of spans rank window) v × IsAtOrBefore links done (entry rank v) × IsBeforeStart links (entry rank v) b

-- neither is needed, as in every other case
unfoldable pub NeedsNeither : List Window → Access → Access → Type 0
NeedsNeither windows a b = ((window : WindowId) → ¬ NeedsVisible windows a b window) × ((window : WindowId) → ¬ NeedsPublished windows a b window)

-- an access that is done at this point is complete, and visible to another, before that starts
unfoldable pub IsDoneBefore : Links → List Window → Spans → Access → Access → Point → Type 0
IsDoneBefore links windows spans a b done =
    ((window : WindowId) × NeedsVisible windows a b window × IsMadeVisible links spans a.memory window done b.call)
    ⊎ (((window : WindowId) × NeedsPublished windows a b window × IsPublished links spans a.memory window done b)
    ⊎ (NeedsNeither windows a b × IsBeforeStart links done b))

-- an access is before another; one that is never done is before none
unfoldable pub Before : Links → List Window → Spans → Access → Access → Type 0
Before links windows spans a b = (done : Point) × (a.done ≡ Some done) × IsDoneBefore links windows spans a b done

-- the points that this asks for are reached: where the first access is done, the starts of the second, the returns of the listed calls
-- before the second that make updates visible, and the entries of those that publish stores
pub record AreReached (points : List ℕ) (spans : Spans) (a b : Access) : Type 0 where
  pub done : (p : Point) → a.done ≡ Some p → IsReached points p
  pub starts : All (IsReached points) b.starts
  pub visible : (window : WindowId) → a.window ≡ Some window → (v : ℕ) → Contains (visible_of spans a.memory window) v → v < b.call → IsReached points (return_of a.memory v)
  pub publishing : (window : WindowId) → b.window ≡ Some window → (v : ℕ) → Contains (publishing_of spans a.memory window) v → IsReached points (entry a.memory v)
