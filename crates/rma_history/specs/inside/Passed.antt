-- What is asked of an access that is before all those of its memory which are still to come.
use Rattle.std.specs.Prelude.{◌≡◌, ℕ, List, Option, Some, Contains, slice_get, true}
use Rattle.rma_base.specs.declared.rank.Rank.{Rank}
use Rattle.rma_base.specs.declared.point.Point.{Point}
use Rattle.rma_link.specs.declared.links.Links.{Links}
use Rattle.rma_link.specs.Order.{IsAtOrBefore}
use Rattle.rma_link.specs.Point.{entry}
use Rattle.rma_window.specs.declared.window_id.WindowId.{WindowId}
use Rattle.rma_window.specs.Windows.{Window}
use Rattle.rma_rules.specs.Access.{Access}
use Rattle.rma_rules.specs.Before.{IsMadeVisible}
use Rattle.rma_rules.specs.Kind.{is_store, is_update}
use Rattle.rma_rules.specs.Share.{IsSeparate, IsThroughSeparate}
use Rattle.rma_rules.specs.Spans.{Spans, publishing_of}
use Rattle.rma_history.specs.History.{IsNextOf}

-- a point is at or before the entry of each next call
abbrev pub IsBeforeAll : Links → List (Option ℕ) → Point → Type 0
IsBeforeAll links next p = (rank : Rank) (call : ℕ) → IsNextOf next rank call → IsAtOrBefore links p (entry rank call)

-- of each rank at most one position is given, and this point of it is at or before the entry of each next call
abbrev pub AreBehind : Links → List (Option ℕ) → List (Option ℕ) → Type 0
AreBehind links next known = (rank : Rank) (pos : ℕ) → slice_get known rank.0 ≡ Some (Some pos) → IsBeforeAll links next (record { rank = rank; pos = pos })

-- what an update through a window of the separate model did by this point is visible to the rank before its next call, if it has one
abbrev pub IsVisibleToNext : Links → List Window → Spans → List (Option ℕ) → Access → Point → Type 0
IsVisibleToNext links windows spans next a done =
    (window : WindowId) (call : ℕ) → is_update a.kind ≡ true → IsThroughSeparate windows a window → IsNextOf next a.memory call → IsMadeVisible links spans a.memory window done call

-- a call of the rank publishes to the window what was done by this point, and is entered at or before each next call
abbrev pub IsPublishedToAll : Links → Spans → List (Option ℕ) → Rank → WindowId → Point → Type 0
IsPublishedToAll links spans next rank window done =
    (v : ℕ) × Contains (publishing_of spans rank window) v × IsAtOrBefore links done (entry rank v) × IsBeforeAll links next (entry rank v)

-- what a store did by this point is published to each window of the separate model
abbrev pub IsPublishedForAll : Links → List Window → Spans → List (Option ℕ) → Access → Point → Type 0
IsPublishedForAll links windows spans next a done = is_store a.kind ≡ true → (window : WindowId) → IsSeparate windows window → IsPublishedToAll links spans next a.memory window done
