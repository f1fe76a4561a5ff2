-- The first bad line of a log, and what its good lines state (the log format of this product).
use Rattle.std.specs.Prelude.{◌≡◌, ℕ, ◌+◌, List, [], ◌∷◌, ◌++◌, length, take, slice_get, Option, Some, None, IsSome, Result, Ok, Err, ◌⊎◌}
use Rattle.rma_base.specs.declared.form_reason.FormReason.{FormReason}
use Rattle.rma_base.specs.declared.form_reason.FormReason.TheVariants.{MissingEnd}
use Rattle.rma_lex.specs.Checked.{checked_lines}
use Rattle.rma_lex.specs.Line.{line_feeds}
use Rattle.rma_form.specs.declared.event.Stated.{Stated}
use Rattle.rma_form.specs.Lines.{reading}
use Rattle.rma_base.specs.declared.version.Version.{Version}
use Rattle.rma_log.specs.Calls.{Entry, events_of, end_line, version_of}
use Rattle.rma_judge.specs.Judging.{reason_of}
use Rattle.rma_log.specs.declared.fault.FormFault.{FormFault}

-- what is known of a line by itself: its text, or why it has none
abbrev pub Checked : Type 0
Checked = Result (List ℕ) FormReason

-- what a line of a log of this version says: nothing, or what it states, or why it is bad by itself
abbrev pub says : Version → Checked → Result (Option Stated) FormReason
says version (Ok text) = reading version text
says version (Err reason) = Err reason

-- the entry of a line with this number that says this
abbrev pub entry_of : ℕ → Result (Option Stated) FormReason → List Entry
entry_of number (Ok None) = []
entry_of number (Ok (Some stated)) = record { line = record { 0 = number }; stated = stated } ∷ []
entry_of number (Err reason) = []

-- These entries and those of some lines behind them, of which the first has this number. A line is read in the version of the
-- lines before it.
abbrev pub entries_behind : List Entry → ℕ → List Checked → List Entry
entries_behind before number [] = before
entries_behind before number (line ∷ lines) = entries_behind (before ++ entry_of number (says (version_of before) line)) (number + 1) lines

-- the entries of the first lines of a log
abbrev pub entries : List Checked → List Entry
entries lines = entries_behind [] 1 lines

-- why a line that says this is bad after these entries, if it is
abbrev pub judged : ℕ → ℕ → List Entry → Result (Option Stated) FormReason → Option FormReason
judged rank logs before (Ok None) = None
judged rank logs before (Ok (Some stated)) = reason_of rank logs (events_of before) stated.event
judged rank logs before (Err reason) = Some reason

-- what a line says after the lines before it
abbrev pub says_after : List Checked → Checked → Result (Option Stated) FormReason
says_after before line = says (version_of (entries before)) line

-- why a line is bad after the lines before it, if it is
abbrev pub line_reason : ℕ → ℕ → List Checked → Checked → Option FormReason
line_reason rank logs before line = judged rank logs (entries before) (says_after before line)

-- each line is good after those before it
abbrev pub AreGood : ℕ → ℕ → List Checked → Type 0
AreGood rank logs lines = (k : ℕ) (line : Checked) → slice_get lines k ≡ Some line → line_reason rank logs (take k lines) line ≡ None

-- The line is bad, and each before it is good.
pub record IsFirstBad (rank logs : ℕ) (lines : List Checked) (fault : FormFault) : Type 0 where
  pub place : ℕ
  pub line : Checked
  pub there : slice_get lines place ≡ Some line
  pub number : fault.line.0 ≡ place + 1
  pub bad : line_reason rank logs (take place lines) line ≡ Some fault.reason
  pub good : AreGood rank logs (take place lines)

-- All lines are good, but none is the end, which is missed after the last.
pub record LacksEnd (rank logs : ℕ) (lines : List Checked) (fault : FormFault) : Type 0 where
  pub good : AreGood rank logs lines
  pub none : end_line (entries lines) ≡ None
  pub number : fault.line.0 ≡ length lines + 1
  pub reason : fault.reason ≡ MissingEnd

-- what is wrong with the lines of a whole log, if something is
abbrev pub IsLogFault : ℕ → ℕ → List Checked → Option FormFault → Type 0
IsLogFault rank logs lines None = AreGood rank logs lines × IsSome (end_line (entries lines))
IsLogFault rank logs lines (Some fault) = IsFirstBad rank logs lines fault ⊎ LacksEnd rank logs lines fault

-- ---- while the text goes on

-- the lines of a text that a line feed ends
abbrev pub whole_lines : List ℕ → List Checked
whole_lines bytes = take (line_feeds bytes) (checked_lines bytes)

-- the first bad one of some lines, if one is bad
abbrev pub IsFirstFault : ℕ → ℕ → List Checked → Option FormFault → Type 0
IsFirstFault rank logs lines None = AreGood rank logs lines
IsFirstFault rank logs lines (Some fault) = IsFirstBad rank logs lines fault

-- So many of some lines are good, and the next one, if there is one, is bad.
pub record AreGoodUntil (rank logs : ℕ) (lines : List Checked) (count : ℕ) : Type 0 where
  pub good : AreGood rank logs (take count lines)
  pub bad : (line : Checked) → slice_get lines count ≡ Some line → IsSome (line_reason rank logs (take count lines) line)
