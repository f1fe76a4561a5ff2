-- The calls that attach memory to dynamic windows, and those that detach it (MPI 4.0, "One-Sided Communications", dynamically attached
-- memory).
use Rattle.std.specs.Prelude.{ℕ, List, [], Option, Some, None, option_map, option_to_list}
use Rattle.rma_base.specs.declared.line.LineNo.{LineNo}
use Rattle.rma_base.specs.declared.rank.Rank.{Rank}
use Rattle.rma_call.specs.Call.{Call, RankCalls}
use Rattle.rma_call.specs.declared.what.What.{What}
use Rattle.rma_call.specs.declared.what.What.TheVariants.{Sync}
use Rattle.rma_call.specs.declared.what.SyncCall.TheVariants.{Window as window_call}
use Rattle.rma_call.specs.declared.window.WindowCall.TheVariants.{Attach, Detach}
use Rattle.rma_run.specs.Run.{by_rank}
use Rattle.rma_window.specs.Windows.{Window, number_of}
use Rattle.rma_window.specs.declared.window_id.WindowId.{WindowId}
use Rattle.rma_dyn.specs.declared.change.Change.{Change}

-- an attach, of so many bytes, or a detach, of none, that the call of a number of a rank makes at an address of a window
abbrev pub change_at : Rank → ℕ → LineNo → ℕ → Option ℕ → WindowId → Change
change_at rank number line address size id = record { rank = rank; window = id; address = address; call = number; line = line; size = size }

-- the same of the window of a name, if there is one
abbrev pub changes_on : List Window → Rank → ℕ → LineNo → List ℕ → ℕ → Option ℕ → List Change
changes_on windows rank number line window address size = option_to_list (option_map (change_at rank number line address size) (number_of windows window))

-- the attach or detach that a call of a rank is by what it does, if it is one
abbrev pub changes_by : List Window → Rank → ℕ → LineNo → What → List Change
changes_by windows rank number line (Sync (window_call (Attach window address size))) = changes_on windows rank number line window address (Some size)
changes_by windows rank number line (Sync (window_call (Detach window address))) = changes_on windows rank number line window address None
changes_by windows rank number line _ = []

-- that of the call of a number
abbrev pub changes_of : List Window → Rank → ℕ → Call → List Change
changes_of windows rank number call = changes_by windows rank number call.line call.what

-- all attaches and detaches of a run, by rank and then by line
abbrev pub changes : List Window → List RankCalls → List Change
changes windows ranks = by_rank (changes_of windows) ranks
