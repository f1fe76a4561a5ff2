-- What is asked of a run, and the answer.
use Rattle.std.specs.Prelude.{◌≤◌, List}
use Rattle.rma_call.specs.Call.{RankCalls}
use Rattle.rma_report.specs.declared.finding.Finding.{Finding}
use Rattle.rma_stream.specs.declared.question.Question.{Question}
use Rattle.rma_stream.specs.declared.question.Question.TheVariants.{Audit, Strict, Explain}
use Rattle.rma_stream.specs.declared.question.Verdict.{Verdict}
use Rattle.rma_stream.specs.Explained.{AreCutsAt}
use Rattle.rma_stream.specs.Findings.{OrElse}
use Rattle.rma_stream.specs.Strict.{AreStrict}

-- findings are counted from 1
abbrev pub IsQuestion : Question → Type 0
IsQuestion Audit = Unit {0}
IsQuestion Strict = Unit {0}
IsQuestion (Explain number) = 1 ≤ number

-- the answer for a run, of which this is what an audit finds
abbrev pub IsVerdict : Question → (List Finding → Type 0) → List RankCalls → Verdict → Type 0
IsVerdict Audit Found ranks verdict = Found verdict.found
IsVerdict Strict Found ranks verdict = OrElse Found (AreStrict ranks) verdict.found
IsVerdict (Explain number) Found ranks verdict = Found verdict.found × AreCutsAt ranks verdict.found number verdict.cuts
