-- What each answer of the top call says.
use Rattle.std.specs.Prelude.{◌≡◌, ◌≢◌, ℕ, ◌+◌, ◌<◌, ◌≤◌, List, [], ◌∷◌, ◌++◌, Option, Some, None, ◌⊎◌, length, sum_by, IfSome, slice_index_or, unwrap_or, if◌then◌else◌}
use Rattle.rma_io.specs.Count.{Rose}
use Rattle.rma_io.specs.Known.{StillKnown}
use Rattle.rma_io.specs.LogBytes.{LogBytes, log_of}
use Rattle.rma_io.specs.Source.{Source, Opened, AreRead}
use Rattle.rma_io.specs.Sink.{Output, AppendsPrefixOf}
use Rattle.rma_gen.specs.Trial.{trial_logs}
use Rattle.rma_gen.specs.declared.trial.Trial.{Trial}
use Rattle.rma_command.specs.Words.{Audit, Command, Audits, AuditsStrictly, Explains, Tries, AskFor, IsTrial, AreFaulty, names_of}
use Rattle.rma_cut.specs.declared.cuts.Cuts.{Cuts}
use Rattle.rma_report.specs.ReportText.{report_text}
use Rattle.rma_report.specs.ReportJson.{report_json}
use Rattle.rma_report.specs.ExplainText.{explain_text}
use Rattle.rma_report.specs.declared.finding.Finding.{Finding}
use Rattle.rma_stream.specs.Findings.{AreFindings, count_of_lines}
use Rattle.rma_stream.specs.Strict.{AreStrictFindings}
use Rattle.rma_stream.specs.Explained.{AreExplained}
use Rattle.rma_audit.specs.declared.status.Status.{Status}
use Rattle.rma_audit.specs.declared.status.Status.TheVariants.{Clean, Findings, Usage, ReadFault, WriteFault, TooLarge, Memory}
use Rattle.rma_base.specs.Limits.{byte_limit}

-- nothing was opened, refused or taken yet
pub record IsFresh (source : Source) (opened : Opened) : Type 0 where
  pub names : opened.names ≡ []
  pub refused : opened.refused ≡ None
  pub taken : source.taken ≡ 0

-- one run of the top call: its words, and its source and its sink before and after
pub record Run : Type 0 where
  pub words : List (List ℕ)
  pub source_before : Source
  pub source : Source
  pub opened : Opened
  pub output_before : Output
  pub output : Output

-- the first of the names were opened, and none was refused but the next
pub record OpensSome (names : List (List ℕ)) (opened : Opened) : Type 0 where
  pub rest : List (List ℕ)
  pub first : names ≡ opened.names ++ rest
  pub refused : (opened.refused ≡ None) ⊎ ((next : List ℕ) × (more : List (List ℕ)) × (rest ≡ next ∷ more) × (opened.refused ≡ Some next))

-- a command that opens and reads the logs that it names: a trial does not, since it makes its own
abbrev pub ReadsLogs : Command → Type 0
ReadsLogs (Audits audit) = Unit {0}
ReadsLogs (AuditsStrictly strict) = Unit {0}
ReadsLogs (Explains explain) = Unit {0}
ReadsLogs (Tries trial) = ⊥

-- the words ask for this command, which reads logs, and the first of them were opened; no more bytes were taken than are allowed
pub record ReadsSome (run : Run) (command : Command) : Type 0 where
  pub words : AskFor run.words command
  pub reads : ReadsLogs command
  pub opened : OpensSome (names_of command) run.opened
  pub taken : run.source.taken ≤ byte_limit

-- the words ask for this command, which reads logs, and all of them were opened
pub record ReadsTooMuch (run : Run) (command : Command) : Type 0 where
  pub words : AskFor run.words command
  pub reads : ReadsLogs command
  pub opened : run.opened.names ≡ names_of command
  pub none_refused : run.opened.refused ≡ None
  pub taken : byte_limit < run.source.taken
  pub stops : run.source.taken ≤ byte_limit + 65536

-- these are the bytes that were taken of each log, as far as its source knows them
abbrev pub AreTaken : List LogBytes → List (List ℕ) → Type 0
AreTaken known logs = (rank : ℕ) → IfSome (log_of known rank).taken (λ bytes. bytes ≡ slice_index_or logs rank [])

-- the logs of these names were opened and read to their ends, and these are their whole bytes
pub record ReadsAll (names : List (List ℕ)) (source : Source) (opened : Opened) (logs : List (List ℕ)) : Type 0 where
  pub in_order : opened.names ≡ names
  pub none_refused : opened.refused ≡ None
  pub taken : source.taken ≤ byte_limit
  pub one_log_a_name : length logs ≡ length names
  pub all_taken : sum_by length logs ≡ source.taken
  pub one_a_log : length source.logs ≡ length logs
  pub read : AreRead source.logs
  pub bytes : AreTaken source.logs logs

-- these are the whole logs that a command is about: those that it names, all of them read, and for a trial those that it makes
abbrev pub AreLogs : Run → Command → List (List ℕ) → Type 0
AreLogs run (Audits audit) logs = ReadsAll audit.names run.source run.opened logs
AreLogs run (AuditsStrictly strict) logs = ReadsAll strict.names run.source run.opened logs
AreLogs run (Explains explain) logs = ReadsAll explain.names run.source run.opened logs
AreLogs run (Tries trial) logs = logs ≡ trial_logs trial

-- this is what a command finds in these whole logs: a strict audit may find more than an audit does, and the others find what it does
abbrev pub AreFound : Command → List (List ℕ) → List Finding → Type 0
AreFound (Audits audit) logs found = AreFindings logs found
AreFound (AuditsStrictly strict) logs found = AreStrictFindings logs found
AreFound (Explains explain) logs found = AreFindings logs found
AreFound (Tries trial) logs found = AreFindings logs found

-- the words ask for this command, these are its whole logs, and this is what it finds in them
pub record Judges (run : Run) (command : Command) (logs : List (List ℕ)) (found : List Finding) : Type 0 where
  pub words : AskFor run.words command
  pub logs_are : AreLogs run command logs
  pub found_are : AreFound command logs found

-- how many of the findings are shown: as many as the words say, and all where they do not
abbrev pub shown : Option ℕ → List Finding → ℕ
shown limit found = unwrap_or limit (length found)

-- the report on `ranks` logs of `lines` lines together in which this was found, as the words of an audit ask for it
abbrev pub report_of : Audit → ℕ → ℕ → List Finding → List ℕ
report_of audit ranks lines found =
    if audit.json then report_json ranks lines found (shown audit.limit found) else report_text ranks lines found (shown audit.limit found)

-- this is the report of a command on these whole logs, in which this was found: that of a strict audit is a text; that which explains a
-- finding has the finding of this number, and the cuts that show it where it is a race; that of a trial shows no finding, and says how
-- many there are
abbrev pub IsReport : Command → List (List ℕ) → List Finding → List ℕ → Type 0
IsReport (Audits audit) logs found report = report ≡ report_of audit (length logs) (count_of_lines logs) found
IsReport (AuditsStrictly strict) logs found report = report ≡ report_text (length logs) (count_of_lines logs) found (shown strict.limit found)
IsReport (Explains explain) logs found report =
    (cuts : Option Cuts) × AreExplained logs explain.number found cuts × (report ≡ explain_text (length logs) (count_of_lines logs) found explain.number cuts)
IsReport (Tries trial) logs found report = report ≡ report_text (length logs) (count_of_lines logs) found 0

-- the whole report was written, and nothing else
abbrev pub WritesReport : Run → Command → List (List ℕ) → List Finding → Type 0
WritesReport run command logs found =
    (report : List ℕ) × IsReport command logs found report × StillKnown (λ before after. after ≡ before ++ report) run.output_before.written run.output.written

-- what was written is a prefix of the report
abbrev pub WritesPrefix : Run → Command → List (List ℕ) → List Finding → Type 0
WritesPrefix run command logs found =
    (report : List ℕ) × IsReport command logs found report × StillKnown (AppendsPrefixOf report) run.output_before.written run.output.written

-- when each answer comes, and what was read and written then
abbrev pub Says : Status → Run → Type 0
Says Clean run = (command : Command) × (logs : List (List ℕ)) × Judges run command logs [] × WritesReport run command logs []
Says Findings run =
    (command : Command) × (logs : List (List ℕ)) × (found : List Finding) × Judges run command logs found × (found ≢ []) × WritesReport run command logs found
Says Usage run = AreFaulty run.words
Says (ReadFault recorded) run = (command : Command) × ReadsSome run command × Rose run.source_before.faults run.source.faults × (recorded ≡ 0)
Says WriteFault run =
    (command : Command) × (logs : List (List ℕ)) × (found : List Finding) × Judges run command logs found × Rose run.output_before.faults run.output.faults
    × WritesPrefix run command logs found
Says (TooLarge bytes) run = (command : Command) × ReadsTooMuch run command × (bytes ≡ run.source.taken)
Says Memory run = ((command : Command) × ReadsSome run command) ⊎ ((trial : Trial) × IsTrial run.words trial)

-- the answers at which nothing was written
abbrev pub WritesNothing : Status → Type 0
WritesNothing Clean = ⊥
WritesNothing Findings = ⊥
WritesNothing WriteFault = ⊥
WritesNothing Usage = Unit {0}
WritesNothing (ReadFault recorded) = Unit {0}
WritesNothing (TooLarge bytes) = Unit {0}
WritesNothing Memory = Unit {0}
