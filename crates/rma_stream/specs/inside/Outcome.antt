-- What is kept of the outcomes of some logs.
use Rattle.std.specs.Prelude.{◌≡◌, List}
use Rattle.rma_log.specs.declared.fault.BookEnd.{BookEnd}
use Rattle.rma_stream.specs.declared.outcome.Outcomes.{Outcomes}
use Rattle.rma_stream.specs.Findings.{bad_lines, calls_in}

-- what is kept are the first bad lines, and the calls of the logs without one
pub record AreOutcomes (ends : List BookEnd) (kept : Outcomes) : Type 0 where
  pub bad_are : kept.bad ≡ bad_lines 0 ends
  pub calls_are : kept.calls.items ≡ calls_in ends
