-- The lists of a run, as they are made rank by rank.
use Rattle.std.specs.Prelude.{◌≡◌, ◌≢◌, ◌<◌, ◌≤◌, ℕ, ◌++◌, List, [], take, slice_get, Some}
use Rattle.std.specs.List.{flat_map}
use Rattle.rma_base.specs.declared.rank.Rank.{Rank}
use Rattle.rma_call.specs.Call.{RankCalls}
use Rattle.rma_window.specs.Creation.{creations}
use Rattle.rma_window.specs.Windows.{Window, windows_by}
use Rattle.rma_window.specs.declared.window_id.WindowId.{WindowId}
use Rattle.rma_epoch.specs.Table.{sound_calls}
use Rattle.rma_rules.specs.Spans.{Spans, publishing_of, visible_of}
use Rattle.rma_visibility.specs.Visibility.{AreListed}
use Rattle.rma_fenced.specs.declared.phase.Phase.{Phase}
use Rattle.rma_points.specs.Points.{AreRunCalls}
use Rattle.rma_accesses.specs.Run.{own_exposures, own_fenced, own_locks, own_posts}

-- the sound calls of a rank are listed
abbrev pub IsListed : List Window → RankCalls → Spans → Type 0
IsListed windows own spans = AreListed windows own.rank (sound_calls windows own.calls) spans

-- none is yet
abbrev pub IsUnlisted : List Window → RankCalls → Spans → Type 0
IsUnlisted windows own spans = AreListed windows own.rank [] spans

-- the lists with what is listed of one rank more
pub record HasMore (windows : List Window) (own : RankCalls) (old new : Spans) : Type 0 where
  pub publishing : (other : Rank) (window : WindowId) → other ≢ own.rank → publishing_of new other window ≡ publishing_of old other window
  pub visible : (other : Rank) (window : WindowId) → other ≢ own.rank → visible_of new other window ≡ visible_of old other window
  pub exposures : new.exposures ≡ old.exposures ++ own_exposures windows own
  pub locks : new.locks ≡ old.locks ++ own_locks windows own
  pub posts : new.posts ≡ old.posts ++ own_posts windows own

-- the lists with what is listed of the first ranks of a run, so many
pub record AreFirst (windows : List Window) (ranks : List RankCalls) (count : ℕ) (spans : Spans) : Type 0 where
  pub listed : (i : ℕ) (own : RankCalls) → slice_get ranks i ≡ Some own → i < count → IsListed windows own spans
  pub unlisted : (i : ℕ) (own : RankCalls) → slice_get ranks i ≡ Some own → count ≤ i → IsUnlisted windows own spans
  pub exposures : spans.exposures ≡ flat_map (own_exposures windows) (take count ranks)
  pub locks : spans.locks ≡ flat_map (own_locks windows) (take count ranks)
  pub posts : spans.posts ≡ flat_map (own_posts windows) (take count ranks)

-- the lists of a run, but for the exposures between fences
pub record ArePosted (ranks : List RankCalls) (spans : Spans) : Type 0 where
  pub calls : AreRunCalls ranks spans
  pub exposures : spans.exposures ≡ flat_map (own_exposures (windows_by (creations ranks))) ranks
  pub locks : spans.locks ≡ flat_map (own_locks (windows_by (creations ranks))) ranks
  pub posts : spans.posts ≡ flat_map (own_posts (windows_by (creations ranks))) ranks

-- the lists with the exposures between the fences of these ranks
abbrev pub with_fences : Spans → List Phase → List Window → List RankCalls → Spans
with_fences spans phases windows ranks = record spans { exposures = spans.exposures ++ flat_map (own_fenced phases windows) ranks }
