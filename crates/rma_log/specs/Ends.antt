-- The outcome of a whole log.
use Rattle.std.specs.Prelude.{◌≡◌, ℕ, List, Some, None}
use Rattle.rma_call.specs.Call.{RankCalls}
use Rattle.rma_log.specs.declared.fault.BookEnd.{BookEnd}
use Rattle.rma_log.specs.declared.fault.BookEnd.TheVariants.{Calls, Fault}
use Rattle.rma_log.specs.Calls.{calls_of, end_line}
use Rattle.rma_log.specs.Logs.{Checked, entries, IsLogFault}

-- The lines are good, and these are the calls of the rank, in their order, and the line of the end.
pub record AreCallsOf (rank logs : ℕ) (lines : List Checked) (calls : RankCalls) : Type 0 where
  pub good : IsLogFault rank logs lines None
  pub of_rank : calls.rank.0 ≡ rank
  pub calls_are : calls.calls ≡ calls_of (entries lines)
  pub end_is : end_line (entries lines) ≡ Some calls.end

-- the outcome of the whole log of a rank, among so many logs, where its lines are these
abbrev pub IsEnd : ℕ → ℕ → List Checked → BookEnd → Type 0
IsEnd rank logs lines (Calls calls) = AreCallsOf rank logs lines calls
IsEnd rank logs lines (Fault fault) = IsLogFault rank logs lines (Some fault)
