-- What is read of a line, and how the tables grow.
use Rattle.std.proofs.Common.{◌≡◌, ℕ, ◌<◌, List, Option, Some, None, sym, ap, ◌∙◌, subst, ⊎_elim, arith, Result, Ok, Err, IfErr, IfOk, IfSome, OnOk, OnErr, MatchOption, length, slice_get, true}
use Rattle.std.proofs.lemmas.Option.{slice_get_cases, slice_get_within}
use Rattle.rma_base.specs.declared.version.Version.{Version}
use Rattle.rma_call.specs.declared.what.What.{What}
use Rattle.rma_call.specs.Call.{Call as CallOf, CallTable}
use Rattle.rma_field.specs.declared.parse_error.ParseError.{ParseError}
use Rattle.rma_field.specs.declared.parse_error.ParseError.TheVariants.{Fault, Memory}
use Rattle.rma_field.specs.Steps.{Fails, ◌>>=◌}
use Rattle.rma_form.specs.declared.event.Event.{Event}
use Rattle.rma_form.specs.declared.event.Stated.{Stated}
use Rattle.rma_form.specs.Lines.{reading, site_of, states}
use Rattle.rma_known.specs.Split.{IsSplit, SplitText}
use Rattle.rma_reader.specs.declared.read_line.ReadLine.{ReadLine}
use Rattle.rma_reader.specs.Reading.{IsRead}
use Rattle.rma_reader.specs.Sites.{IsSiteOf}
use Rattle.rma_reader.specs.inside.Tables.{Keeps, Reads}
use Rattle.rma_reader.proofs.SiteLemmas.{at_site, reading_split, stated_at}

pub same_keeps : {A : Type 0} (old new : List A) → new ≡ old → Keeps old new
same_keeps old new same number value is = rw same is

-- a site that is bad makes the line so
pub fails_at : (error : ParseError) (event : Event) (text : Option (List ℕ)) → Fails error (site_of text) → Fails error (stated_at event text)
fails_at Memory event text bad = tt
fails_at (Fault fault) event text bad = ap (λ found. found >>= λ site. Ok (Some (at_site event site))) bad

-- words that state an event, at a site of this number
pub reads_at : (table : CallTable) (v : Version) (line : SplitText) (event : Event) (number : Option ℕ) → IsSplit line.line line.words line.site → states v line.words (at_site event None)
    → IsSiteOf table line.site number → Reads table v line (Ok (Some (record { event = event; site = number; by_words = true })))
reads_at table v line event number split said sited = (
  (
    at_site event line.site,
    reading_split v line.line line.words line.site event split said ∙ ap (λ good. good >>= λ site. Ok (Some (at_site event site))) sited.0,
    record { event = cc; site = sited.1 },
  ),
  λ by. said,
)

-- words that state an event, at a site that is bad
pub reads_bad : (table : CallTable) (v : Version) (line : SplitText) (event : Event) (error : ParseError) → IsSplit line.line line.words line.site → states v line.words (at_site event None)
    → Fails error (site_of line.site) → Reads table v line (Err error)
reads_bad table v line event error split said bad =
    subst (Fails error) (sym (reading_split v line.line line.words line.site event split said)) (fails_at error event line.site bad)

-- what was read where there is an answer, and where there is none
pub reads_ok : (table : CallTable) (v : Version) (line : SplitText) (result : Result (Option ReadLine) ParseError) → Reads table v line result
    → IfOk result (λ read. MatchOption read (reading v line.line ≡ Ok None) (λ read. (stated : Stated) × (reading v line.line ≡ Ok (Some stated)) × IsRead table read stated))
reads_ok table v line (Ok None) read = read
reads_ok table v line (Ok (Some it)) read = read.0
reads_ok table v line (Err error) read = tt

pub reads_words : (table : CallTable) (v : Version) (line : SplitText) (result : Result (Option ReadLine) ParseError) → Reads table v line result
    → IfOk result (λ read. IfSome read (λ read. read.by_words ≡ true → states v line.words (record { event = read.event; site = None })))
reads_words table v line (Ok None) read = tt
reads_words table v line (Ok (Some it)) read = read.1
reads_words table v line (Err error) read = tt

pub reads_err : (table : CallTable) (v : Version) (line : SplitText) (result : Result (Option ReadLine) ParseError) → Reads table v line result → IfErr result (λ error. Fails error (reading v line.line))
reads_err table v line (Ok read) it = tt
reads_err table v line (Err error) it = it

-- appending a call changes no table
pub push_keeps : {E : Type 0} (result : Result (Unit {0}) E) (old new : CallTable) (what : ℕ) (calls : What → List CallOf) → what < length old.whats
    → OnOk result ((value : What) → slice_get old.whats what ≡ Some value → new ≡ record old { calls = calls value }) → OnErr result (new ≡ old) → (new.whats ≡ old.whats) × (new.sites ≡ old.sites)
push_keeps (Ok _) old new what calls within ok err =
    ⊎_elim
    (λ it. let same = ok it.0 it.2 in (ap (λ (t : CallTable). t.whats) same, ap (λ (t : CallTable). t.sites) same))
    (λ past. absurd (omega (arith, within, past.0)))
    (slice_get_cases old.whats what).1
push_keeps (Err _) old new what calls within ok err = (ap (λ (t : CallTable). t.whats) err, ap (λ (t : CallTable). t.sites) err)

-- numbers in a table stay so where it grows
pub within_more : {A : Type 0} (old new : List A) → Keeps old new → (number : ℕ) → number < length old → number < length new
within_more old new keeps number below =
    ⊎_elim
    (λ it. slice_get_within new number it.0 (keeps number it.0 it.2))
    (λ past. absurd (omega (arith, below, past.0)))
    (slice_get_cases old number).1
