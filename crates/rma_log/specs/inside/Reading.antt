-- What was read of a log so far.
use Rattle.std.specs.Prelude.{◌≡◌, ℕ, ◌+◌, List, [], ◌∷◌, ◌++◌, length, take, slice_get, Bool, true, false, Option, Some, None, IfSome, option_to_list, unwrap_or, if◌then◌else◌}
use Rattle.std.specs.Option.{option_or}
use Rattle.rma_base.specs.declared.line.LineNo.{LineNo}
use Rattle.rma_lex.specs.Checked.{checked_lines}
use Rattle.rma_lex.specs.Cutting.{Cutting, Represents}
use Rattle.rma_call.specs.Call.{Call as CallOf}
use Rattle.rma_call.specs.declared.what.SyncCall.{SyncCall}
use Rattle.rma_call.specs.declared.what.What.{What}
use Rattle.rma_form.specs.declared.event.Event.{Event}
use Rattle.rma_form.specs.declared.event.Event.TheVariants.{Call}
use Rattle.rma_form.specs.declared.event.Stated.{Stated}
use Rattle.rma_judge.specs.Naming.{is_end, named_version}
use Rattle.rma_judge.specs.inside.BookState as state
use Rattle.rma_log.specs.Calls.{call_of, calls_of, end_line, events_of, version_of}
use Rattle.rma_judge.specs.Types.{types_after}
use Rattle.rma_log.specs.inside.Known.{AreKnown, StatesWhat}
use Rattle.rma_judge.specs.inside.CallEvent.{IsCallOf}
use Rattle.rma_elsewhere.specs.Elsewhere.{IsStatedBy}
use Rattle.rma_type.specs.Table.{Table}
use Rattle.rma_log.specs.Logs.{Checked, AreGood, AreGoodUntil, IsFirstBad, entries}
use Rattle.rma_log.specs.declared.fault.FormFault.{FormFault}
use Rattle.rma_log.specs.declared.reader.Reader.{Reader}

-- the reader took these lines, which are good
pub record HasTaken (rank logs : ℕ) (lines : List Checked) (reader : Reader) : Type 0 where
  pub good : AreGood rank logs lines
  pub represents : state.Represents reader.book (events_of (entries lines))
  pub of_rank : reader.book.rank ≡ rank
  pub among : reader.book.logs ≡ logs
  pub version : reader.lines.version ≡ version_of (entries lines)
  pub calls : reader.lines.calls.calls ≡ calls_of (entries lines)
  pub end : reader.end ≡ end_line (entries lines)
  pub known : AreKnown (types_after (events_of (entries lines))) reader.lines

-- the reader stopped at a bad line, and has the calls and the end of those before it
pub record HasStopped (rank logs : ℕ) (lines : List Checked) (reader : Reader) (fault : FormFault) : Type 0 where
  pub bad : IsFirstBad rank logs lines fault
  pub calls : reader.lines.calls.calls ≡ calls_of (entries (take bad.place lines))
  pub end : reader.end ≡ end_line (entries (take bad.place lines))

-- the lines are good and were taken, or this is the first bad one
abbrev pub IsBehind : ℕ → ℕ → List Checked → Reader → Option FormFault → Type 0
IsBehind rank logs lines reader None = HasTaken rank logs lines reader
IsBehind rank logs lines reader (Some fault) = HasStopped rank logs lines reader fault

-- the reader has read these lines of the log of a rank
abbrev pub HasRead : ℕ → ℕ → List Checked → Reader → Type 0
HasRead rank logs lines reader = IsBehind rank logs lines reader reader.fault

-- the reader has the calls and the end of so many good lines, which are all, or the next one is bad
pub record HasGood (rank logs : ℕ) (lines : List Checked) (reader : Reader) : Type 0 where
  pub count : ℕ
  pub until : AreGoodUntil rank logs lines count
  pub calls : reader.lines.calls.calls ≡ calls_of (entries (take count lines))
  pub end : reader.end ≡ end_line (entries (take count lines))

-- the cutter was fed this text, and the reader has read the lines that it handed out
pub record IsReading (rank logs : ℕ) (cutter : Cutting) (text : List ℕ) (reader : Reader) : Type 0 where
  pub represents : Represents cutter text
  pub read : HasRead rank logs (take cutter.handed (checked_lines text)) reader

-- ---- one line more

-- the reader read the next line, where that has this number and this content
abbrev pub ReadsNext : Reader → Reader → ℕ → Checked → Type 0
ReadsNext old new at line = (rank logs : ℕ) (before : List Checked) → at ≡ length before + 1 → HasRead rank logs before old → HasRead rank logs (before ++ line ∷ []) new

-- the reader took a line that states this
pub record Takes (old new : Reader) (at : LineNo) (stated : Stated) : Type 0 where
  pub judged : state.IsJudged old.book new.book stated.event None
  pub version : new.lines.version ≡ unwrap_or (named_version stated.event) old.lines.version
  pub calls : (events : List Event) → state.Represents old.book events
      → new.lines.calls.calls ≡ old.lines.calls.calls ++ option_to_list (call_of events (record { line = at; stated = stated }))
  pub end : new.end ≡ option_or (if is_end stated.event then Some at else None) old.end
  pub known : (events : List Event) → state.Represents old.book events → AreKnown (types_after events) old.lines → AreKnown (types_after (events ++ stated.event ∷ [])) new.lines

-- the reader refused a line that states this
pub record Refuses (old new : Reader) (at : LineNo) (stated : Stated) (fault : FormFault) : Type 0 where
  pub judged : state.IsJudged old.book new.book stated.event (Some fault.reason)
  pub line : fault.line ≡ at
  pub calls : new.lines.calls.calls ≡ old.lines.calls.calls
  pub end : new.end ≡ old.end

abbrev pub GoesOn : Reader → Reader → LineNo → Stated → Option FormFault → Type 0
GoesOn old new at stated None = Takes old new at stated
GoesOn old new at stated (Some fault) = Refuses old new at stated fault

-- the reader took or refused a line that states this
abbrev pub Reads : Reader → Reader → LineNo → Stated → Type 0
Reads old new at stated = GoesOn old new at stated new.fault

-- The reader has a number for what a call does. Known words state what they did, and so do these, where the call is what they
-- state; it is said whether they do so whatever the datatypes are.
pub record Adds (old new : Reader) (words : Option (List ℕ)) (what : What) (request : Option (List ℕ)) (lasts : Bool) : Type 0 where
  pub same : new ≡ record old { lines = new.lines }
  pub version : new.lines.version ≡ old.lines.version
  pub calls : new.lines.calls.calls ≡ old.lines.calls.calls
  pub sites : (number : ℕ) (value : List ℕ) → slice_get old.lines.calls.sites number ≡ Some value → slice_get new.lines.calls.sites number ≡ Some value
  pub known : (types : Table) (event : Event) → AreKnown types old.lines → IfSome words (λ own. IsStatedBy old.lines.version own event) → IsCallOf types what request event
      → (lasts ≡ true → (sync : SyncCall) × (event ≡ Call sync request)) → AreKnown types new.lines

-- the reader has this number for what these words state, with this request, and they are noted
pub record HasAdded (old new : Reader) (words : List ℕ) (number : ℕ) (request : Option (List ℕ)) : Type 0 where
  pub what : What
  pub states : StatesWhat old.lines words what request
  pub is : slice_get new.lines.calls.whats number ≡ Some what
  pub adds : Adds old new (Some words) what request false

-- The reader has one call more. Known words state what they did, and so do these words, where the call is what they state.
pub record Appends (old new : Reader) (words : Option (List ℕ)) (request : Option (List ℕ)) (call : CallOf) : Type 0 where
  pub book : new.book ≡ old.book
  pub version : new.lines.version ≡ old.lines.version
  pub calls : new.lines.calls.calls ≡ old.lines.calls.calls ++ call ∷ []
  pub end : new.end ≡ old.end
  pub fault : new.fault ≡ old.fault
  pub known : (types : Table) (event : Event) → AreKnown types old.lines → IfSome words (λ own. IsStatedBy old.lines.version own event) → IsCallOf types call.what request event
      → AreKnown types new.lines
