-- Which calls complete operations of their rank that were called before, and where (MPI 4.0, "One-Sided Communications",
-- completion of operations).
use Rattle.std.specs.Prelude.{◌==◌, List, Bool, true, false, ◌&&◌, ◌||◌, Option, Some, None}
use Rattle.std.specs.Option.{option_map_or}
use Rattle.rma_base.specs.declared.rank.Rank.{Rank}
use Rattle.rma_call.specs.Call.{Call}
use Rattle.rma_call.specs.declared.what.What.{What}
use Rattle.rma_call.specs.declared.what.What.TheVariants.{Sync}
use Rattle.rma_call.specs.declared.what.SyncCall.TheVariants as sync
use Rattle.rma_call.specs.declared.epoch.EpochCall.{EpochCall}
use Rattle.rma_call.specs.declared.epoch.EpochCall.TheVariants.{Complete, Unlock, UnlockAll, Flush, FlushAll, FlushLocal, FlushLocalAll}
use Rattle.rma_window.specs.declared.window_id.WindowId.{WindowId}
use Rattle.rma_window.specs.Windows.{Window}
use Rattle.rma_open.specs.Calls.{number_on}
use Rattle.rma_completion.specs.declared.completing.Completing.{Completing}
use Rattle.rma_completion.specs.declared.completing.Completion.{Completion}
use Rattle.rma_completion.specs.declared.completing.Completion.TheVariants.{Local, Remote}

-- what a call on a window completes there: the operations for its target, or those for all, at the caller alone or at the target
-- too. A complete ends the access epoch of a start, so it completes what was called in it for any of its targets
abbrev pub completing_in : EpochCall → Option Completing
completing_in (Complete window) = Some (record { target = None; completion = Local })
completing_in (Unlock window target) = Some (record { target = Some target; completion = Remote })
completing_in (UnlockAll window) = Some (record { target = None; completion = Remote })
completing_in (Flush window target) = Some (record { target = Some target; completion = Remote })
completing_in (FlushAll window) = Some (record { target = None; completion = Remote })
completing_in (FlushLocal window target) = Some (record { target = Some target; completion = Local })
completing_in (FlushLocalAll window) = Some (record { target = None; completion = Local })
completing_in _ = None

-- what a call completes on its window, if anything
abbrev pub completed_by : What → Option Completing
completed_by (Sync (sync.Epoch call)) = completing_in call
completed_by _ = None

-- both are one target, or all targets
abbrev pub same_target : Option Rank → Option Rank → Bool
same_target None None = true
same_target (Some target) (Some other) = target.0 == other.0
same_target _ _ = false

-- both are at the caller alone, or at the target too
abbrev pub same_completion : Completion → Completion → Bool
same_completion Local Local = true
same_completion Remote Remote = true
same_completion _ _ = false

-- it is the window of this number
abbrev pub is_numbered : WindowId → Option WindowId → Bool
is_numbered id window = option_map_or (λ own. own.0 == id.0) window false

-- a call completes, exactly so far, what was called on a window of the run for exactly these targets
abbrev pub completes : List Window → WindowId → Option Rank → Completion → Call → Bool
completes windows id target completion call =
    is_numbered id (number_on windows call.what)
    && option_map_or (λ own. same_target own.target target && same_completion own.completion completion) (completed_by call.what) false

-- a call completes at the target what was called on a window for the target: an unlock, a flush, or one of these for all targets
abbrev pub completes_remotely : List Window → WindowId → Rank → Call → Bool
completes_remotely windows id target call = completes windows id (Some target) Remote call || completes windows id None Remote call

-- a call completes at the caller what was called on a window for the target: any of those, a complete, or a local flush
abbrev pub completes_locally : List Window → WindowId → Rank → Call → Bool
completes_locally windows id target call =
    completes_remotely windows id target call || (completes windows id (Some target) Local call || completes windows id None Local call)
