-- What is kept of what is open on the windows of a rank.
use Rattle.std.specs.Prelude.{◌≡◌, ℕ, List, [], nat_eq, Option, Some, None, slice_get}
use Rattle.std.specs.Map.{keys_of, lookup}
use Rattle.std.specs.Option.{option_map_or}
use Rattle.std.specs.Cmp.Lexicographic.{pointwise}
use Rattle.rma_call.specs.Call.{Call}
use Rattle.rma_call.specs.declared.what.What.{What}
use Rattle.rma_window.specs.Windows.{Window}
use Rattle.rma_open.specs.declared.open_epochs.OpenEpochs.{OpenEpochs}
use Rattle.rma_epoch.specs.declared.open_windows.OpenWindows.{OpenWindows}
use Rattle.rma_epoch.specs.declared.open_windows.Place.{Place}
use Rattle.rma_epoch.specs.declared.open_windows.Spot.{Spot}
use Rattle.rma_epoch.specs.declared.open_windows.Step.{Step}
use Rattle.rma_epoch.specs.declared.placements.Placement.{Placement}
use Rattle.rma_open.specs.Calls.{number_on, window_on}
use Rattle.rma_open.specs.Open.{Open, open_after, open_on}
use Rattle.rma_open.specs.Reason.{reason_at}
use Rattle.rma_open.specs.Reaching.{closed_by, opening_in}
use Rattle.rma_epoch.specs.Table.{closed_at, opening_at, taken_with}
use Rattle.rma_open.specs.inside.Held.{open_of}
use Rattle.rma_open.specs.inside.Settled.{settled_by}

-- what is kept of a window: nothing is open where nothing is kept
abbrev pub kept : List (List ℕ × OpenEpochs) → List ℕ → Open
kept windows window = option_map_or open_of (lookup (pointwise nat_eq window) windows) (open_after [])

-- what is kept represents what these calls of a rank leave open
pub record IsOpenAfter (calls : List Call) (own : OpenWindows) : Type 0 where
  pub windows_are : (window : List ℕ) → kept own.windows.entries window ≡ open_on calls window

-- the windows that have a place, in the order of their places
abbrev pub names_in : OpenWindows → List (List ℕ)
names_in own = keys_of own.windows.entries

-- a window is found there which calls are on that do this, under its number, and none where they are on no window
abbrev pub IsSpotOf : List Window → List (List ℕ) → What → Option Spot → Type 0
IsSpotOf windows names what None = window_on what ≡ None
IsSpotOf windows names what (Some spot) = (name : List ℕ) × (slice_get names spot.index ≡ Some name) × (window_on what ≡ Some name) × (spot.window ≡ number_on windows what)

-- a place is that of the window which calls are on that do this, with its number and what is settled of them, and there is none where they are on no window
abbrev pub IsPlaceOf : List Window → List (List ℕ) → What → Option Place → Type 0
IsPlaceOf windows names what None = window_on what ≡ None
IsPlaceOf windows names what (Some place) = (name : List ℕ) × (slice_get names place.index ≡ Some name) × (window_on what ≡ Some name)
    × (place.settled ≡ settled_by windows what)
    × (place.window ≡ number_on windows what)

-- the places are those of what calls do, by number
abbrev pub ArePlaces : List Window → List (List ℕ) → List What → List (Option Place) → Type 0
ArePlaces windows names whats places =
    (number : ℕ) (what : What) (place : Option Place) → slice_get whats number ≡ Some what → slice_get places number ≡ Some place → IsPlaceOf windows names what place

-- names stay where they are
abbrev pub StayThere : List (List ℕ) → List (List ℕ) → Type 0
StayThere old new = (place : ℕ) (name : List ℕ) → slice_get old place ≡ Some name → slice_get new place ≡ Some name

-- in which epoch a call on a window stands and what it closes, where this is open there
abbrev pub placed_in : Open → What → Placement
placed_in own what = record { opening = opening_in own what; closes = closed_by own what }

-- the same of a call after these calls
abbrev pub placed_at : List Call → Call → Placement
placed_at calls call = record { opening = opening_at calls call; closes = closed_at calls call }

-- a call has come after these calls: the reason is its own, what is kept is what they leave open and it, unless it has a reason, and
-- it stands in this epoch and closes this one
pub record IsTaken (windows : List Window) (calls : List Call) (call : Call) (step : Step) (new : List (List ℕ × OpenEpochs)) : Type 0 where
  pub reason_is : step.reason ≡ reason_at windows calls call
  pub windows_are : (window : List ℕ) → kept new window ≡ open_on (taken_with step.reason call calls) window
  pub placement_is : step.placement ≡ placed_at calls call
