-- What a run says once the logs are read.
use Rattle.std.specs.Prelude.{◌==◌}
use Rattle.std.proofs.lemmas.Bool.{eqb-true, false≢true}
use Rattle.std.proofs.Common.{◌≡◌, ℕ, true, false, List, [], ◌∷◌, length, Option, refl, sym, ap, ◌∙◌, subst, inl, inr, arith}
use Rattle.rma_command.specs.Words.{Audit, Strict, Explain, Command, Audits, AuditsStrictly, Explains, Tries, AskFor, IsAudit, IsStrict, IsExplain, IsTrial, names_of}
use Rattle.rma_cut.specs.declared.cuts.Cuts.{Cuts}
use Rattle.rma_gen.specs.Trial.{trial_logs}
use Rattle.rma_gen.specs.declared.trial.Trial.{Trial}
use Rattle.rma_report.specs.ExplainText.{explain_text}
use Rattle.rma_report.specs.ReportText.{report_text}
use Rattle.rma_report.specs.declared.finding.Finding.{Finding}
use Rattle.rma_report.specs.declared.finding.Findings.{Findings}
use Rattle.rma_stream.specs.Explained.{AreExplained}
use Rattle.rma_stream.specs.Findings.{AreFindings, count_of_lines}
use Rattle.rma_stream.specs.Strict.{AreStrictFindings}
use Rattle.rma_audit.specs.Answers.{Run, ReadsLogs, ReadsAll, Judges, IsReport, Says, report_of, shown}
use Rattle.rma_audit.specs.inside.Runs.{HasJudged, HasStopped, HasTried, HasWritten, status_of}
use Rattle.rma_audit.specs.declared.status.Status.{Status}
use Rattle.rma_audit.specs.declared.status.Status.TheVariants as status
use Rattle.rma_audit.specs.declared.stop.Stop.{Stop}
use Rattle.rma_audit.specs.declared.stop.Stop.TheVariants as stops
use Rattle.rma_audit.proofs.RunLemmas.{opens_all}

-- ---- reading stopped

pub says_stopped : (run : Run) (command : Command) → AskFor run.words command → ReadsLogs command → (stop : Stop) → HasStopped stop (names_of command) run.source_before run.source run.opened → Says (status_of stop) run
says_stopped run command words reads stops.Fault (opened, taken, rose) = (command, record { words = words; reads = reads; opened = opened; taken = taken }, rose, refl)
says_stopped run command words reads (stops.TooLarge bytes) (opened, unrefused, more, few, is) = (
  command,
  record { words = words; reads = reads; opened = opened; none_refused = unrefused; taken = rw is at more; stops = rw is at few },
  is,
)
says_stopped run command words reads stops.Memory (opened, taken) = inl (command, record { words = words; reads = reads; opened = opened; taken = taken })

-- ---- the report was written, or a part of it

-- all logs of a command were read, and then memory ran out
memory_ran_out : (run : Run) (command : Command) → AskFor run.words command → ReadsLogs command → (logs : List (List ℕ)) → ReadsAll (names_of command) run.source run.opened logs → Says status.Memory run
memory_ran_out run command words reads logs all =
    inl (command, record { words = words; reads = reads; opened = opens_all (names_of command) run.opened all.in_order all.none_refused; taken = all.taken })

-- what each answer says, where this is what was found, and this its report
module _ (run : Run) (command : Command) (logs : List (List ℕ)) (found : List Finding) (report : List ℕ) (judges : Judges run command logs found) (is_report : IsReport command logs found report) (memory : Says status.Memory run) where
  says : (answer : Status) → HasWritten answer report found run.output_before run.output → Says answer run
  says status.Clean h = (command, logs, subst (λ them. Judges run command logs them) h.0 judges, (report, subst (λ them. IsReport command logs them report) h.0 is_report, h.1))
  says status.Findings h = (command, logs, found, judges, h.0, (report, is_report, h.1))
  says status.Usage h = absurd h
  says (status.ReadFault recorded) h = absurd h
  says status.WriteFault h = (command, logs, found, judges, h.0, (report, is_report, h.1))
  says (status.TooLarge bytes) h = absurd h
  says status.Memory h = memory

-- an audit of logs
audit_report : (audit : Audit) (logs : List (List ℕ)) (findings : Findings) → findings.ranks ≡ length logs → findings.lines ≡ count_of_lines logs
    → IsReport (Audits audit) logs findings.list (report_of audit findings.ranks findings.lines findings.list)
audit_report audit logs findings ranks lines = rw (ranks, lines) refl

pub says_audit : (run : Run) (audit : Audit) (findings : Findings) → IsAudit run.words audit → HasJudged AreFindings audit.names run.source run.opened findings → (answer : Status)
    → HasWritten answer (report_of audit findings.ranks findings.lines findings.list) findings.list run.output_before run.output → Says answer run
says_audit run audit findings words judged =
    says run (Audits audit) judged.logs findings.list (report_of audit findings.ranks findings.lines findings.list) (record { words = words; logs_are = judged.all; found_are = judged.found })
    (audit_report audit judged.logs findings judged.ranks judged.lines) (memory_ran_out run (Audits audit) words tt judged.logs judged.all)

-- a strict audit of logs
pub says_strict : (run : Run) (strict : Strict) (findings : Findings) → IsStrict run.words strict → HasJudged AreStrictFindings strict.names run.source run.opened findings → (answer : Status)
    → HasWritten answer (report_text findings.ranks findings.lines findings.list (shown strict.limit findings.list)) findings.list run.output_before run.output → Says answer run
says_strict run strict findings words judged =
    let found = findings.list in
    let limit = shown strict.limit found in
    let is_report : IsReport (AuditsStrictly strict) judged.logs found (report_text findings.ranks findings.lines found limit) = rw (judged.ranks, judged.lines) refl in
    says run (AuditsStrictly strict) judged.logs found (report_text findings.ranks findings.lines found limit) (record { words = words; logs_are = judged.all; found_are = judged.found }) is_report
    (memory_ran_out run (AuditsStrictly strict) words tt judged.logs judged.all)

-- what is explained is what an audit finds
explained_are_found : (logs : List (List ℕ)) (number : ℕ) (found : List Finding) (cuts : Option Cuts) → AreExplained logs number found cuts → AreFindings logs found
explained_are_found logs number found cuts h = (h.ends, h.ends_are, h.found_are)

-- an explanation of a finding
pub says_explained : (run : Run) (explain : Explain) (findings : Findings) (cuts : Option Cuts) → IsExplain run.words explain
    → HasJudged (λ texts found. AreExplained texts explain.number found cuts) explain.names run.source run.opened findings → (answer : Status)
    → HasWritten answer (explain_text findings.ranks findings.lines findings.list explain.number cuts) findings.list run.output_before run.output → Says answer run
says_explained run explain findings cuts words judged =
    let found = findings.list in
    let number = explain.number in
    let is_found = explained_are_found judged.logs number found cuts judged.found in
    says run (Explains explain) judged.logs found (explain_text findings.ranks findings.lines found number cuts) (record { words = words; logs_are = judged.all; found_are = is_found })
    (cuts, judged.found, rw (judged.ranks, judged.lines) refl) (memory_ran_out run (Explains explain) words tt judged.logs judged.all)

-- a trial
pub says_count : (run : Run) (trial : Trial) (findings : Findings) → IsTrial run.words trial → HasTried trial findings → (answer : Status)
    → HasWritten answer (report_text findings.ranks findings.lines findings.list 0) findings.list run.output_before run.output → Says answer run
says_count run trial findings words tried =
    let found = findings.list in
    let logs = trial_logs trial in
    let is_report : IsReport (Tries trial) logs found (report_text findings.ranks findings.lines found 0) = rw (tried.ranks, tried.lines) refl in
    says run (Tries trial) logs found (report_text findings.ranks findings.lines found 0) (record { words = words; logs_are = refl; found_are = tried.found }) is_report (inr (trial, words))

-- ---- lists of findings

-- a list without an item is empty
pub is_none : (found : List Finding) → (length found == 0) ≡ true → found ≡ []
is_none [] empty = refl
is_none (finding ∷ found) empty = let none : length (finding ∷ found) ≡ 0 = eqb-true _ _ empty in absurd (omega arith)

-- and one with an item is not
pub is_some_finding : (found : List Finding) → (length found == 0) ≡ false → found ≡ [] → ⊥
is_some_finding found some none = false≢true (sym some ∙ ap (λ (it : List Finding). length it == 0) none)
