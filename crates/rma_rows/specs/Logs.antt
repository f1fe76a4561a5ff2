-- What the logs of a row come to.
use Rattle.std.specs.Prelude.{◌≡◌, ◌≤◌, ℕ, List, length, slice_get, Some}
use Rattle.rma_base.specs.Limits.{fed_limit}
use Rattle.rma_call.specs.Call.{RankCalls}
use Rattle.rma_kept.specs.Kept.{AreKept}
use Rattle.rma_lex.specs.Checked.{checked_lines}
use Rattle.rma_log.specs.declared.fault.BookEnd.{BookEnd}
use Rattle.rma_log.specs.Ends.{IsEnd}
use Rattle.rma_rows.specs.declared.logs.Logs.{Logs}
use Rattle.rma_rows.specs.declared.logs.Logs.TheVariants.{Calls, Fault}

-- what holds of the calls, where there are some
abbrev pub IfCalls : (List RankCalls → Type 0) → Logs → Type 0
IfCalls P (Calls calls) = P calls.items
IfCalls P (Fault rank fault) = Unit {0}

-- the outcome of a log of a rank, among so many, that is no longer than it may be
abbrev pub IsEndOfLog : ℕ → ℕ → BookEnd → Type 0
IsEndOfLog logs rank end = (text : List ℕ) × (length text ≤ fed_limit) × IsEnd rank logs (checked_lines text) end

-- the calls of a good log of a rank, among so many
pub record IsLogOf (logs rank : ℕ) (own : RankCalls) : Type 0 where
  pub rank_is : own.rank.0 ≡ rank
  pub kept : AreKept own.rank.0 logs own.calls
  pub few : length own.calls ≤ fed_limit

-- the i-th is that of rank i
pub record AreLogsOf (logs count : ℕ) (calls : List RankCalls) : Type 0 where
  pub count_is : length calls ≡ count
  pub each : (i : ℕ) (own : RankCalls) → slice_get calls i ≡ Some own → IsLogOf logs i own
