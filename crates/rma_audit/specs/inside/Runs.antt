-- The two halves of a run: reading the logs, and writing the report.
use Rattle.std.specs.Prelude.{◌≡◌, ◌≢◌, ℕ, ◌+◌, ◌<◌, ◌≤◌, List, [], ◌++◌, length, None}
use Rattle.rma_base.specs.Limits.{byte_limit}
use Rattle.rma_io.specs.Count.{Rose}
use Rattle.rma_io.specs.Known.{StillKnown}
use Rattle.rma_io.specs.Source.{Source, Opened}
use Rattle.rma_io.specs.Sink.{Output, AppendsPrefixOf}
use Rattle.rma_book.specs.inside.RankState.{RankState}
use Rattle.rma_report.specs.declared.finding.Finding.{Finding}
use Rattle.rma_report.specs.declared.finding.Findings.{Findings}
use Rattle.rma_stream.specs.Findings.{AreFindings, count_of_lines}
use Rattle.rma_stream.specs.inside.Feeding.{HaveBooks}
use Rattle.rma_gen.specs.Trial.{trial_logs}
use Rattle.rma_gen.specs.declared.trial.Trial.{Trial}
use Rattle.rma_audit.specs.Answers.{Run, OpensSome, ReadsAll}
use Rattle.rma_audit.specs.declared.status.Status.{Status}
use Rattle.rma_audit.specs.declared.status.Status.TheVariants as status
use Rattle.rma_audit.specs.declared.stop.Stop.{Stop}
use Rattle.rma_audit.specs.declared.stop.Stop.TheVariants as stops

-- one run with these words
abbrev pub run_of : List (List ℕ) → Source → Source → Opened → Output → Output → Run
run_of words source_before source opened output_before output =
    record { words = words; source_before = source_before; source = source; opened = opened; output_before = output_before; output = output }

-- the logs of these names were opened and read to their ends, and the books were fed them
pub record HasRead (names : List (List ℕ)) (source : Source) (opened : Opened) (books : List RankState) : Type 0 where
  pub logs : List (List ℕ)
  pub all : ReadsAll names source opened logs
  pub read : HaveBooks (length logs) books logs

-- the logs of these names were opened and read to their ends, and these findings are such in them
pub record HasJudged (AreSuch : List (List ℕ) → List Finding → Type 0) (names : List (List ℕ)) (source : Source) (opened : Opened) (findings : Findings) : Type 0 where
  pub logs : List (List ℕ)
  pub all : ReadsAll names source opened logs
  pub ranks : findings.ranks ≡ length logs
  pub lines : findings.lines ≡ count_of_lines logs
  pub found : AreSuch logs findings.list

-- this was found in the logs of this trial
pub record HasTried (trial : Trial) (findings : Findings) : Type 0 where
  pub ranks : findings.ranks ≡ length (trial_logs trial)
  pub lines : findings.lines ≡ count_of_lines (trial_logs trial)
  pub found : AreFindings (trial_logs trial) findings.list

-- the reading of the logs of these names stopped for this cause
abbrev pub HasStopped : Stop → List (List ℕ) → Source → Source → Opened → Type 0
HasStopped stops.Fault names before after opened = OpensSome names opened × (after.taken ≤ byte_limit) × Rose before.faults after.faults
HasStopped (stops.TooLarge bytes) names before after opened =
    (opened.names ≡ names) × (opened.refused ≡ None) × (byte_limit < bytes) × (bytes ≤ byte_limit + 65536) × (bytes ≡ after.taken)
HasStopped stops.Memory names before after opened = OpensSome names opened × (after.taken ≤ byte_limit)

-- the status of a run whose reading stopped
abbrev pub status_of : Stop → Status
status_of stops.Fault = status.ReadFault 0
status_of (stops.TooLarge bytes) = status.TooLarge bytes
status_of stops.Memory = status.Memory

-- what was written of a report of this text, which has these findings, by the answer
abbrev pub HasWritten : Status → List ℕ → List Finding → Output → Output → Type 0
HasWritten status.Clean text found before after = (found ≡ []) × StillKnown (λ old new. new ≡ old ++ text) before.written after.written
HasWritten status.Findings text found before after = (found ≢ []) × StillKnown (λ old new. new ≡ old ++ text) before.written after.written
HasWritten status.Usage text found before after = ⊥
HasWritten (status.ReadFault recorded) text found before after = ⊥
HasWritten status.WriteFault text found before after = Rose before.faults after.faults × StillKnown (AppendsPrefixOf text) before.written after.written
HasWritten (status.TooLarge bytes) text found before after = ⊥
HasWritten status.Memory text found before after = Unit {0}
