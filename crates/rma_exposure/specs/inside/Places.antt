-- The places of windows among those of a rank's epochs.
use Rattle.std.specs.Prelude.{◌≡◌, ℕ, List, Option, Some, None, true, false, nat_eq, slice_get}
use Rattle.std.specs.Map.{keys_of}
use Rattle.std.specs.Cmp.Lexicographic.{pointwise}
use Rattle.rma_call.specs.declared.what.What.{What}
use Rattle.rma_exposure.specs.declared.openings.Openings.{Openings}
use Rattle.rma_exposure.specs.declared.side_epochs.SideEpochs.{SideEpochs}
use Rattle.rma_exposure.specs.declared.rank_epochs.RankEpochs.{RankEpochs}
use Rattle.rma_exposure.specs.Opening.{Opening, posted, started, waited, completed}
use Rattle.rma_exposure.specs.inside.Epochs.{kept, IsOpened}

-- the window of this name stands at a place
abbrev pub IsPlaceIn : List (List ℕ × Openings) → List ℕ → ℕ → Type 0
IsPlaceIn windows window place = slice_get (keys_of windows) place ≡ Some window

abbrev pub IsPlaceOf : SideEpochs → List ℕ → ℕ → Type 0
IsPlaceOf epochs window place = IsPlaceIn epochs.windows.entries window place

-- this is the place of a window, which has none where nothing is kept of it
abbrev pub IsPlace : List (List ℕ × Openings) → List ℕ → Option ℕ → Type 0
IsPlace windows window None = kept windows window ≡ None
IsPlace windows window (Some place) = IsPlaceIn windows window place

-- windows stay where they are
abbrev pub NamesStay : List (List ℕ × Openings) → List (List ℕ × Openings) → Type 0
NamesStay old new = (window : List ℕ) (place : ℕ) → IsPlaceIn old window place → IsPlaceIn new window place

abbrev pub WindowsStay : SideEpochs → SideEpochs → Type 0
WindowsStay old new = NamesStay old.windows.entries new.windows.entries

-- one more opening on a window, of this number and group
pub record IsAddedAt (window : List ℕ) (number : ℕ) (group : List ℕ) (old new : List (List ℕ × Openings)) : Type 0 where
  pub own : (name : List ℕ) → pointwise nat_eq window name ≡ true → IsOpened number group (kept old name) (kept new name)
  pub others : (name : List ℕ) → pointwise nat_eq window name ≡ false → kept new name ≡ kept old name
  pub names : keys_of new ≡ keys_of old

-- the window that what calls do opens or closes an epoch on, if they do, stands at a place
pub record IsWindowPlace (epochs : RankEpochs) (what : What) (place : ℕ) : Type 0 where
  pub posts : (opening : Opening) → posted what ≡ Some opening → IsPlaceOf epochs.posts opening.window place
  pub waits : (window : List ℕ) → waited what ≡ Some window → IsPlaceOf epochs.posts window place
  pub starts : (opening : Opening) → started what ≡ Some opening → IsPlaceOf epochs.starts opening.window place
  pub completes : (window : List ℕ) → completed what ≡ Some window → IsPlaceOf epochs.starts window place

-- the places that are known are those of what calls do, by number
abbrev pub ArePlaces : RankEpochs → List What → List (Option ℕ) → Type 0
ArePlaces epochs whats places = (number : ℕ) (what : What) (place : ℕ) → slice_get whats number ≡ Some what → slice_get places number ≡ Some (Some place) → IsWindowPlace epochs what place

-- windows of both sides stay where they are
pub record AllStay (old new : RankEpochs) : Type 0 where
  pub posts : WindowsStay old.posts new.posts
  pub starts : WindowsStay old.starts new.starts
