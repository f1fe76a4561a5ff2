-- The calls of a rank that make stores and updates visible (MPI 4.0, "One-Sided Communications", semantics and correctness).
use Rattle.std.specs.Prelude.{◌≡◌, ◌≢◌, ℕ, ◌==◌, List, [], ◌∷◌, Bool, true, false, Option, None, if◌then◌else◌}
use Rattle.std.specs.Option.{option_map_or}
use Rattle.rma_base.specs.declared.rank.Rank.{Rank}
use Rattle.rma_call.specs.Call.{Call}
use Rattle.rma_call.specs.declared.what.What.{What}
use Rattle.rma_call.specs.declared.what.What.TheVariants.{Sync}
use Rattle.rma_call.specs.declared.what.SyncCall.TheVariants as sync
use Rattle.rma_call.specs.declared.window.WindowCall.TheVariants.{Create, Free}
use Rattle.rma_call.specs.declared.epoch.EpochCall.TheVariants as epoch
use Rattle.rma_run.specs.Run.{by_number}
use Rattle.rma_window.specs.declared.window_id.WindowId.{WindowId}
use Rattle.rma_window.specs.Windows.{Window, number_of}
use Rattle.rma_open.specs.Calls.{number_on}
use Rattle.rma_rules.specs.Spans.{Spans, publishing_of, visible_of}

-- whether a call publishes what its rank stored before to the window that it is on: the creation and the free of the window, a post,
-- a fence, an unlock of one or all targets, or a sync
abbrev pub publishes : What → Bool
publishes (Sync (sync.Window (Create window comm base size unit model ops dynamic))) = true
publishes (Sync (sync.Window (Free window))) = true
publishes (Sync (sync.Epoch (epoch.Fence window assertions))) = true
publishes (Sync (sync.Epoch (epoch.Post window origins assertions))) = true
publishes (Sync (sync.Epoch (epoch.Unlock window target))) = true
publishes (Sync (sync.Epoch (epoch.UnlockAll window))) = true
publishes (Sync (sync.Epoch (epoch.Sync window))) = true
publishes _ = false

-- whether a call makes visible to its rank what others updated before through the window that it is on: the free of the window, an
-- expwait, a fence, a lock of one or all targets, or a sync
abbrev pub makes_visible : What → Bool
makes_visible (Sync (sync.Window (Free window))) = true
makes_visible (Sync (sync.Epoch (epoch.Fence window assertions))) = true
makes_visible (Sync (sync.Epoch (epoch.Expwait window))) = true
makes_visible (Sync (sync.Epoch (epoch.Lock window target kind assertions))) = true
makes_visible (Sync (sync.Epoch (epoch.LockAll window assertions))) = true
makes_visible (Sync (sync.Epoch (epoch.Sync window))) = true
makes_visible _ = false

-- the number of the window that a call is on or creates, where it is one of the run
abbrev pub number_at : List Window → What → Option WindowId
number_at windows (Sync (sync.Window (Create window comm base size unit model ops dynamic))) = number_of windows window
number_at windows what = number_on windows what

-- a window, where something holds
abbrev pub where_so : Bool → Option WindowId → Option WindowId
where_so holds window = if holds then window else None

-- whether it is this window
abbrev pub is_window : WindowId → Option WindowId → Bool
is_window window other = option_map_or (λ id. id.0 == window.0) other false

-- the number of a call that concerns a window, where it is this one
abbrev pub listed : WindowId → Option WindowId → ℕ → List ℕ
listed window other number = if is_window window other then number ∷ [] else []

-- the numbers of those calls of a rank that publish what it stored to a window, ascending
abbrev pub publishing_calls : List Window → List Call → WindowId → List ℕ
publishing_calls windows calls window = by_number (λ number call. listed window (where_so (publishes call.what) (number_at windows call.what)) number) 0 calls

-- the numbers of those calls of a rank that make visible to it what others updated through a window, ascending
abbrev pub visible_calls : List Window → List Call → WindowId → List ℕ
visible_calls windows calls window = by_number (λ number call. listed window (where_so (makes_visible call.what) (number_at windows call.what)) number) 0 calls

-- the calls that are listed for a rank are those among these
pub record AreListed (windows : List Window) (rank : Rank) (calls : List Call) (spans : Spans) : Type 0 where
  pub publishing : (window : WindowId) → publishing_of spans rank window ≡ publishing_calls windows calls window
  pub visible : (window : WindowId) → visible_of spans rank window ≡ visible_calls windows calls window

-- the lists differ at most in the calls of this rank
pub record AreOthersSame (rank : Rank) (old new : Spans) : Type 0 where
  pub publishing : (other : Rank) (window : WindowId) → other ≢ rank → publishing_of new other window ≡ publishing_of old other window
  pub visible : (other : Rank) (window : WindowId) → other ≢ rank → visible_of new other window ≡ visible_of old other window
  pub exposures : new.exposures ≡ old.exposures
  pub locks : new.locks ≡ old.locks
  pub posts : new.posts ≡ old.posts
