-- The exposure epochs between fences (MPI 4.0, "One-Sided Communications", fence): two successive fences of a target on a window are
-- one, where some rank accesses the target in the phase between them.
use Rattle.std.specs.Prelude.{◌≡◌, ℕ, ◌+◌, ◌==◌, ◌&&◌, List, [], ◌∷◌, ◌++◌, length, Bool, false, Option, Some, None, option_map, slice_get, if◌then◌else◌}
use Rattle.std.specs.List.{cons_option, filter_map, flat_map, list_any}
use Rattle.std.specs.Option.{option_and_then, option_map_or, option_or}
use Rattle.rma_base.specs.declared.rank.Rank.{Rank}
use Rattle.rma_call.specs.Call.{Call, RankCalls}
use Rattle.rma_call.specs.declared.what.What.{What}
use Rattle.rma_call.specs.declared.what.What.TheVariants.{Rma}
use Rattle.rma_round.specs.Kind.{fenced}
use Rattle.rma_round.specs.Round.{partner_of}
use Rattle.rma_run.specs.Run.{calls_of}
use Rattle.rma_window.specs.declared.window_id.WindowId.{WindowId}
use Rattle.rma_window.specs.Creation.{creations}
use Rattle.rma_window.specs.Windows.{Window, number_of, windows_by}
use Rattle.rma_open.specs.declared.opening.EpochKind.{EpochKind}
use Rattle.rma_open.specs.declared.opening.EpochKind.TheVariants as kind
use Rattle.rma_epoch.specs.declared.epoch.Epoch.{Epoch}
use Rattle.rma_epoch.specs.declared.epoch.Placed.{Placed}
use Rattle.rma_epoch.specs.Table.{epochs_of, placed_of, sound_calls}
use Rattle.rma_rules.specs.declared.span.Exposure.{Exposure}
use Rattle.rma_rules.specs.declared.span.ExposureKind.TheVariants.{Fenced}
use Rattle.rma_rules.specs.Spans.{Spans}
use Rattle.rma_fenced.specs.declared.phase.Phase.{Phase}
use Rattle.rma_fenced.specs.declared.listing.FenceCall.{FenceCall}

-- ---- the phases in which accesses stand

-- the target of a call, where it is an access to one
abbrev pub target_of : What → Option Rank
target_of (Rma access) = access.target
target_of _ = None

-- the target of the call of a number, where it is an access to one
abbrev pub target_at : List Call → ℕ → Option Rank
target_at calls number = option_and_then (λ call. target_of call.what) (slice_get calls number)

-- something, where an epoch is the phase of a fence
abbrev pub if_fence : {X : Type 0} → EpochKind → Option X → Option X
if_fence kind.Fence x = x
if_fence _ x = None

-- the phase of a target that is one with an epoch of a rank: the epoch is a phase too, and the fences that open the two are of one round
abbrev pub phase_in : (ℕ → List Call) → Rank → Epoch → Rank → Option Phase
phase_in calls rank epoch target = if_fence epoch.kind (option_map (λ fence. record { target = target; fence = fence }) (partner_of calls rank.0 epoch.opener target.0))

-- the phase of a target that is one with the epoch of an index of a rank
abbrev pub phase_at : (ℕ → List Call) → Rank → List Epoch → ℕ → Rank → Option Phase
phase_at calls rank epochs index target = option_and_then (λ epoch. phase_in calls rank epoch target) (slice_get epochs index)

-- the phase of its target in which an access of a rank stands, by the epochs and the sound calls of the rank
abbrev pub phase_of_access : (ℕ → List Call) → Rank → List Epoch → List Call → Placed → Option Phase
phase_of_access calls rank epochs sound placed = option_and_then (phase_at calls rank epochs placed.epoch) (target_at sound placed.call)

-- the phases in which the accesses of a rank stand, by its sound calls
abbrev pub accessed_phases : (ℕ → List Call) → List Window → Rank → List Call → List Phase
accessed_phases calls windows rank sound = filter_map (phase_of_access calls rank (epochs_of windows sound) sound) (placed_of windows sound)

-- the phases in which the accesses of one rank of a run with these windows stand
abbrev pub accessed_by : List RankCalls → List Window → RankCalls → List Phase
accessed_by ranks windows own = accessed_phases (calls_of ranks) windows own.rank (sound_calls windows own.calls)

-- the phases in which the sound accesses of a run stand, by rank. An access of no bytes counts too
abbrev pub accessed_in : List RankCalls → List Phase
accessed_in ranks = flat_map (accessed_by ranks (windows_by (creations ranks))) ranks

-- whether a phase is that of this target that its fence of this number opens
abbrev pub is_phase_of : ℕ → ℕ → Phase → Bool
is_phase_of target fence phase = (target == phase.target.0) && (fence == phase.fence)

-- whether that phase is one of these
abbrev pub is_accessed : List Phase → ℕ → ℕ → Bool
is_accessed phases target fence = list_any (is_phase_of target fence) phases

-- lists have the same phases
abbrev pub HasSame : List Phase → List Phase → Type 0
HasSame phases others = (target fence : ℕ) → is_accessed phases target fence ≡ is_accessed others target fence

-- ---- the fences of a target

-- the number of the window that a call is a fence on, where it is one on a window of the run
abbrev pub fence_on : List Window → What → Option WindowId
fence_on windows what = option_and_then (number_of windows) (fenced what)

-- whether it is this window
abbrev pub is_window : WindowId → Option WindowId → Bool
is_window window other = option_map_or (λ id. id.0 == window.0) other false

-- the last fence on a window among some calls of a rank; the first of the calls has this number
abbrev pub last_from : List Window → WindowId → ℕ → List Call → Option FenceCall
last_from windows window number [] = None
last_from windows window number (call ∷ calls) =
    option_or (last_from windows window (number + 1) calls) (if is_window window (fence_on windows call.what) then Some (record { number = number; line = call.line }) else None)

-- the last fence of a rank on a window among these calls
abbrev pub last_fence : List Window → List Call → WindowId → Option FenceCall
last_fence windows calls window = last_from windows window 0 calls

-- ---- the exposures

-- the exposure of a rank from a fence on a window to the next one there
abbrev pub exposure_with : Rank → WindowId → FenceCall → ℕ → Exposure
exposure_with rank window first second =
    record { window = window; target = rank; kind = Fenced; opener = first.number; close = Some second; opened = first.line }

-- the exposure, where an access stands in the phase that the first fence opens
abbrev pub exposure_between : List Phase → Rank → WindowId → FenceCall → ℕ → Option Exposure
exposure_between phases rank window first second = if is_accessed phases rank.0 first.number then Some (exposure_with rank window first second) else None

-- the exposure that a fence on a window closes, by the last fence there before it
abbrev pub closed_by : List Phase → Rank → ℕ → WindowId → Option FenceCall → Option Exposure
closed_by phases rank second window last = option_and_then (λ first. exposure_between phases rank window first second) last

-- the exposure that a call closes after these calls of the rank
abbrev pub fenced_at : List Phase → List Window → Rank → List Call → Call → Option Exposure
fenced_at phases windows rank before call =
    option_and_then (λ window. closed_by phases rank (length before) window (last_fence windows before window)) (fence_on windows call.what)

-- the exposures that some calls of a rank close after the calls before, in their order
abbrev pub fenced_from : List Phase → List Window → Rank → List Call → List Call → List Exposure
fenced_from phases windows rank before [] = []
fenced_from phases windows rank before (call ∷ calls) = cons_option (fenced_at phases windows rank before call) (fenced_from phases windows rank (before ++ call ∷ []) calls)

-- the exposures between the fences of a rank, by its sound calls, in the order of the fences that close them
abbrev pub fenced_of : List Phase → List Window → Rank → List Call → List Exposure
fenced_of phases windows rank sound = fenced_from phases windows rank [] sound

-- the lists with these exposures behind the others
abbrev pub with_fenced : Spans → List Phase → List Window → Rank → List Call → Spans
with_fenced spans phases windows rank sound = record spans { exposures = spans.exposures ++ fenced_of phases windows rank sound }
