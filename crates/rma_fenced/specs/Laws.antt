-- What the phases are in which accesses stand, and the exposures between fences (MPI 4.0, "One-Sided Communications", fence).
use Rattle.std.specs.Prelude.{◌≡◌, ◌<◌, ℕ, List, Contains, Some, slice_get, true}
use Rattle.rma_base.specs.declared.rank.Rank.{Rank}
use Rattle.rma_call.specs.Call.{Call, RankCalls}
use Rattle.rma_call.specs.declared.rma.RmaCall.{RmaCall}
use Rattle.rma_call.specs.declared.what.What.TheVariants.{Rma}
use Rattle.rma_round.specs.Round.{partner_of}
use Rattle.rma_run.specs.Run.{calls_of}
use Rattle.rma_window.specs.Creation.{creations}
use Rattle.rma_window.specs.Windows.{Window, windows_by}
use Rattle.rma_open.specs.declared.opening.EpochKind.TheVariants.{Fence}
use Rattle.rma_epoch.specs.declared.epoch.Epoch.{Epoch}
use Rattle.rma_epoch.specs.declared.epoch.Placed.{Placed}
use Rattle.rma_epoch.specs.Table.{epochs_of, placed_of, sound_calls}
use Rattle.rma_rules.specs.declared.span.Exposure.{Exposure}
use Rattle.rma_rules.specs.declared.span.ExposureKind.TheVariants.{Fenced}
use Rattle.rma_fenced.specs.declared.phase.Phase.{Phase}
use Rattle.rma_fenced.specs.Fenced.{fence_on, is_accessed}

-- the windows of a run
abbrev pub windows_of : List RankCalls → List Window
windows_of ranks = windows_by (creations ranks)

-- the sound calls of one rank of a run
abbrev pub sound_of : List RankCalls → RankCalls → List Call
sound_of ranks own = sound_calls (windows_of ranks) own.calls

-- an access of a rank of a run stands in the phase of a target that its fence of this number opens: the access is a sound call of the
-- rank, it targets this rank, and it stands in a phase of its own rank whose fence is of the round of that fence of the target
pub record IsAccessed (ranks : List RankCalls) (target fence : ℕ) : Type 0 where
  pub own : RankCalls
  pub of_run : Contains ranks own
  pub placed : Placed
  pub stands : Contains (placed_of (windows_of ranks) (sound_of ranks own)) placed
  pub call : Call
  pub there : slice_get (sound_of ranks own) placed.call ≡ Some call
  pub access : RmaCall
  pub accesses : call.what ≡ Rma access
  pub targets : access.target ≡ Some (record { 0 = target })
  pub epoch : Epoch
  pub of_epoch : slice_get (epochs_of (windows_of ranks) (sound_of ranks own)) placed.epoch ≡ Some epoch
  pub is_phase : epoch.kind ≡ Fence
  pub matches : partner_of (calls_of ranks) own.rank.0 epoch.opener target ≡ Some fence

-- an exposure is one between two successive fences of a rank, whose sound calls are these: both are sound fences on its window, there
-- is no fence on that window between them, and an access stands in the phase that the first opens
pub record IsBetweenFences (phases : List Phase) (windows : List Window) (rank : Rank) (sound : List Call) (exposure : Exposure) : Type 0 where
  pub first : Call
  pub opens : slice_get sound exposure.opener ≡ Some first
  pub first_is_fence : fence_on windows first.what ≡ Some exposure.window
  pub number : ℕ
  pub close : exposure.close ≡ Some number
  pub second : Call
  pub closes : slice_get sound number ≡ Some second
  pub second_is_fence : fence_on windows second.what ≡ Some exposure.window
  pub later : exposure.opener < number
  pub none_between : (k : ℕ) (call : Call) → exposure.opener < k → k < number → slice_get sound k ≡ Some call → fence_on windows call.what ≡ Some exposure.window → ⊥
  pub accessed : is_accessed phases rank.0 exposure.opener ≡ true
  pub target : exposure.target ≡ rank
  pub kind : exposure.kind ≡ Fenced
  pub line : exposure.opened ≡ first.line
