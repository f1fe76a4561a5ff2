-- Points and calls of a run (MPI 4.0, "One-Sided Communications", semantics and correctness).
use Rattle.std.specs.Prelude.{◌≡◌, ℕ, List, Some, slice_get}
use Rattle.rma_base.specs.declared.rank.Rank.{Rank}
use Rattle.rma_call.specs.Call.{RankCalls}
use Rattle.rma_link.specs.Point.{entry, return_of}
use Rattle.rma_clock.specs.Reached.{IsReached, points_of}
use Rattle.rma_run.specs.Run.{lens_of}
use Rattle.rma_window.specs.Creation.{creations}
use Rattle.rma_window.specs.Windows.{windows_by}
use Rattle.rma_rules.specs.Spans.{Spans}
use Rattle.rma_epoch.specs.Table.{sound_calls}
use Rattle.rma_visibility.specs.Visibility.{AreListed}

-- a rank makes a call of this number in the run: it is entered and returns at points of the run
abbrev pub IsCallOfRun : List RankCalls → Rank → ℕ → Type 0
IsCallOfRun ranks rank number = IsReached (points_of (lens_of ranks)) (entry rank number) × IsReached (points_of (lens_of ranks)) (return_of rank number)

-- the calls that are listed for each rank of the run are those among its sound calls
abbrev pub AreRunCalls : List RankCalls → Spans → Type 0
AreRunCalls ranks spans =
    (i : ℕ) (own : RankCalls) → slice_get ranks i ≡ Some own → AreListed (windows_by (creations ranks)) own.rank (sound_calls (windows_by (creations ranks)) own.calls) spans
