-- A run that is audited.
use Rattle.std.specs.Prelude.{◌≡◌, ◌≢◌, List, []}
use Rattle.rma_log.specs.declared.fault.BookEnd.{BookEnd}
use Rattle.rma_match.specs.Matches.{AreMatches}
use Rattle.rma_accesses.specs.Run.{AreGood}
use Rattle.rma_stream.specs.declared.run.MatchedRun.{MatchedRun}
use Rattle.rma_stream.specs.declared.run.Run.{Run}
use Rattle.rma_stream.specs.declared.run.Run.TheVariants.{Judged, Matched}
use Rattle.rma_stream.specs.Findings.{bad_lines, calls_in}

-- the calls are those of the ranks of a run of good logs, and these are their matches
pub record IsSound (run : MatchedRun) : Type 0 where
  pub good : AreGood run.calls.items
  pub matches_are : AreMatches run.calls.items run.matches

-- so it is where no log has a bad line
abbrev pub IsMatched : Run → Type 0
IsMatched (Judged bad) = Unit {0}
IsMatched (Matched run) = IsSound run

-- no log has a bad line, and these are the calls
pub record AreCallsOf (ends : List BookEnd) (run : MatchedRun) : Type 0 where
  pub none_bad : bad_lines 0 ends ≡ []
  pub calls_are : run.calls.items ≡ calls_in ends

-- the run is that of logs with these outcomes
abbrev pub IsRunOf : List BookEnd → Run → Type 0
IsRunOf ends (Judged bad) = (bad ≡ bad_lines 0 ends) × (bad ≢ [])
IsRunOf ends (Matched run) = AreCallsOf ends run
