-- Logs that have ended.
use Rattle.std.specs.Prelude.{◌≡◌, ℕ, List, length}
use Rattle.rma_log.specs.declared.fault.BookEnd.{BookEnd}
use Rattle.rma_stream.specs.declared.audit.Explained.{Explained}
use Rattle.rma_stream.specs.declared.question.Question.{Question}
use Rattle.rma_stream.specs.Findings.{AreEnds, AreFindingsOf, calls_in, count_of_lines}
use Rattle.rma_stream.specs.inside.Verdict.{IsVerdict}

-- these whole logs have ended, and this is found as it is asked
pub record HasEnded (question : Question) (texts : List (List ℕ)) (ended : Explained) : Type 0 where
  pub ranks : ended.findings.ranks ≡ length texts
  pub lines : ended.findings.lines ≡ count_of_lines texts
  pub ends : List BookEnd
  pub ends_are : AreEnds (length texts) 0 texts ends
  pub verdict : IsVerdict question (AreFindingsOf ends) (calls_in ends) (record { found = ended.findings.list; cuts = ended.cuts })
