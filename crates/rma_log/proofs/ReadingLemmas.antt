-- A reader and one line more.
use Rattle.std.proofs.Common.{◌≡◌, ℕ, Bool, zero, suc, ◌+◌, ◌<◌, ◌≤◌, List, [], ◌∷◌, ◌++◌, length, take, slice_get, Option, Some, None, IfSome, IsSome, option_map, Result, Ok, Err, true, false, is_some, cond, refl, sym, ap, subst, ◌∙◌, ◌⊎◌, inl, inr, ⊎_elim, arith}
use Rattle.std.specs.Prelude.{option_to_list, unwrap_or}
use Rattle.std.specs.Option.{option_and_then, option_or}
use Rattle.std.specs.Result.{OnOk}
use Rattle.std.proofs.lemmas.List.{append-nil, length-take, take_more}
use Rattle.std.proofs.lemmas.Bool.{false≢true}
use Rattle.std.proofs.Math.Seq.{take-length}
use Rattle.std.proofs.lemmas.Option.{slice_get_within, get_or_from_slice_get}
use Rattle.rma_base.specs.declared.form_reason.FormReason.{FormReason}
use Rattle.rma_base.specs.declared.line.LineNo.{LineNo}
use Rattle.rma_lex.specs.Checked.{checked_lines}
use Rattle.rma_lex.specs.Line.{lines}
use Rattle.rma_lex.specs.Cutting.{Cutting}
use Rattle.rma_lex.specs.Cutting as cutting
use Rattle.rma_lex.proofs.CheckLemmas.{length_checked_lines}
use Rattle.rma_lex.proofs.CutterLemmas.{handed_stay}
use Rattle.rma_form.specs.declared.event.Event.{Event}
use Rattle.rma_form.specs.declared.event.Event.TheVariants.{Header, End, Call, Datatype, Rma, Local}
use Rattle.rma_form.specs.declared.event.Stated.{Stated}
use Rattle.rma_call.specs.Call.{Call as CallOf, CallTable}
use Rattle.rma_call.specs.declared.what.What.{What}
use Rattle.rma_known.specs.Known.{Known, IsAmong}
use Rattle.rma_reader.specs.Reading.{Reading, Grows}
use Rattle.rma_reader.specs.Sites.{IsSite}
use Rattle.rma_type.specs.Table.{Table}
use Rattle.rma_judge.specs.Names.{request_number}
use Rattle.rma_judge.specs.Naming.{attributes_of, is_end, is_header, named_version}
use Rattle.rma_judge.specs.Types.{is_datatype, types_after}
use Rattle.rma_judge.specs.Judging.{reason_of}
use Rattle.rma_log.specs.Calls.{Entry, call_of, call_with, calls_of, end_line, events_of, version_of}
use Rattle.rma_log.specs.Logs.{Checked, AreGood, IsFirstBad, IsFirstFault, entries, entries_behind, entry_of, says, says_after, line_reason, judged}
use Rattle.rma_log.specs.declared.fault.FormFault.{FormFault}
use Rattle.rma_log.specs.declared.reader.Reader.{Reader}
use Rattle.rma_judge.specs.declared.book.access.JudgedAccess.TheVariants as access
use Rattle.rma_judge.specs.inside.BookState.{BookState, Represents, IsGoodAccess, IsJudged}
use Rattle.rma_judge.specs.inside.CallEvent.{IsCall, IsCallOf, request_of}
use Rattle.rma_elsewhere.specs.Elsewhere.{IsStatedBy}
use Rattle.rma_log.specs.inside.Known.{AreKnown}
use Rattle.rma_log.specs.inside.Reading.{Adds, Appends, HasTaken, HasStopped, HasGood, HasRead, IsBehind, IsReading, Takes, Refuses, GoesOn, Reads}
use Rattle.rma_judge.proofs.JudgingLemmas.{call_is}
use Rattle.rma_judge.proofs.CallLemmas.{typed_none}
use Rattle.rma_log.proofs.KnownLemmas.{known_grown, known_noted, known_on}
use Rattle.rma_judge.proofs.TypeLemmas.{what_in_same}
use Rattle.rma_log.proofs.EntryLemmas.{events_of_more, version_of_more, calls_of_more, end_line_more}

-- ---- lists with one item more

abbrev pub more : List Checked → Checked → List Checked
more lines line = lines ++ line ∷ []

slice_get_front : (k : ℕ) (lines : List Checked) (line : Checked) → k < length lines → slice_get (more lines line) k ≡ slice_get lines k
slice_get_front k [] line below = absurd (omega arith)
slice_get_front zero (first ∷ lines) line below = refl
slice_get_front (suc k) (first ∷ lines) line below = slice_get_front k lines line (omega arith)

slice_get_last : (lines : List Checked) (line : Checked) → slice_get (more lines line) (length lines) ≡ Some line
slice_get_last [] line = refl
slice_get_last (first ∷ lines) line = slice_get_last lines line

take_front : (k : ℕ) (lines : List Checked) (line : Checked) → k ≤ length lines → take k (more lines line) ≡ take k lines
take_front zero lines line below = refl
take_front (suc k) [] line below = absurd (omega arith)
take_front (suc k) (first ∷ lines) line below = ap (λ rest. first ∷ rest) (take_front k lines line (omega arith))

take_whole : (lines : List Checked) (line : Checked) → take (length lines) (more lines line) ≡ lines
take_whole lines line = take_front (length lines) lines line (omega arith) ∙ take-length lines

entries_behind_more : (before : List Entry) (number : ℕ) (lines : List Checked) (line : Checked)
    → entries_behind before number (more lines line)
    ≡ entries_behind before number lines ++ entry_of (number + length lines) (says (version_of (entries_behind before number lines)) line)
entries_behind_more before number [] line = ap (λ n. before ++ entry_of n (says (version_of before) line)) (omega arith)
entries_behind_more before number (first ∷ lines) line =
    let next = before ++ entry_of number (says (version_of before) first) in
    let all = entries_behind next (number + 1) lines in
    entries_behind_more next (number + 1) lines line ∙ ap (λ n. all ++ entry_of n (says (version_of all) line)) (omega arith)

pub entries_more : (lines : List Checked) (line : Checked) → entries (more lines line) ≡ entries lines ++ entry_of (length lines + 1) (says_after lines line)
entries_more lines line = entries_behind_more [] 1 lines line ∙ ap (λ n. entries lines ++ entry_of n (says_after lines line)) (omega arith)

-- a line that states something
pub entries_stated : (lines : List Checked) (line : Checked) (at : LineNo) (stated : Stated) → says_after lines line ≡ Ok (Some stated) → at.0 ≡ length lines + 1
    → entries (more lines line) ≡ entries lines ++ record { line = at; stated = stated } ∷ []
entries_stated lines line at stated said number =
    entries_more lines line ∙ ap (λ it. entries lines ++ entry_of (length lines + 1) it) said ∙ ap (λ n. entries lines ++ entry_of n (Ok (Some stated))) (sym number)

-- ---- a line more behind a bad one

pub IsFirstBad_more : (rank logs : ℕ) (lines : List Checked) (line : Checked) (fault : FormFault) → IsFirstBad rank logs lines fault → IsFirstBad rank logs (more lines line) fault
IsFirstBad_more rank logs lines line fault h =
    let below = slice_get_within lines h.place h.line h.there in
    let front = take_front h.place lines line (omega (arith, below)) in
    record {
      place = h.place;
      line = h.line;
      there = slice_get_front h.place lines line below ∙ h.there;
      number = h.number;
      bad = ap (λ before. line_reason rank logs before h.line) front ∙ h.bad;
      good = subst (λ before. AreGood rank logs before) (sym front) h.good;
    }

-- the first line that is bad
pub IsFirstBad_now : (rank logs : ℕ) (lines : List Checked) (line : Checked) (fault : FormFault) → AreGood rank logs lines
    → line_reason rank logs lines line ≡ Some fault.reason → fault.line.0 ≡ length lines + 1 → IsFirstBad rank logs (more lines line) fault
IsFirstBad_now rank logs lines line fault good bad number = record {
  place = length lines;
  line = line;
  there = slice_get_last lines line;
  number = number;
  bad = ap (λ before. line_reason rank logs before line) (take_whole lines line) ∙ bad;
  good = subst (λ before. AreGood rank logs before) (sym (take_whole lines line)) good;
}

-- ---- a good line more

last_or_front : (k : ℕ) (lines : List Checked) (line found : Checked) → slice_get (more lines line) k ≡ Some found → (k < length lines) ⊎ ((k ≡ length lines) × (found ≡ line))
last_or_front k [] line found h = first k h
  where
    first : (k : ℕ) → slice_get (line ∷ []) k ≡ Some found → (k < 0) ⊎ ((k ≡ 0) × (found ≡ line))
    first zero h = let same : line ≡ found = cc in inr (refl, sym same)
    first (suc k) h = cc
last_or_front zero (one ∷ lines) line found h = inl (omega arith)
last_or_front (suc k) (one ∷ lines) line found h = ⊎_elim
    (λ (below : k < length lines). inl (omega (arith, below)))
    (λ (here : (k ≡ length lines) × (found ≡ line)). inr (ap suc here.0, here.1))
    (last_or_front k lines line found h)

pub AreGood_more : (rank logs : ℕ) (lines : List Checked) (line : Checked) → AreGood rank logs lines → line_reason rank logs lines line ≡ None → AreGood rank logs (more lines line)
AreGood_more rank logs lines line good last k found h = ⊎_elim
    (λ (below : k < length lines).
    ap (λ before. line_reason rank logs before found) (take_front k lines line (omega (arith, below))) ∙ good k found (sym (slice_get_front k lines line below) ∙ h))
    (λ (here : (k ≡ length lines) × (found ≡ line)).
    ap (λ n. line_reason rank logs (take n (more lines line)) found) here.0 ∙ ap (λ before. line_reason rank logs before found) (take_whole lines line)
    ∙ ap (λ it. line_reason rank logs lines it) here.1 ∙ last)
    (last_or_front k lines line found h)

-- what was taken is taken still, where the lines have the same entries
HasTaken_same : (rank logs : ℕ) (lines others : List Checked) (reader : Reader) → HasTaken rank logs lines reader → AreGood rank logs others → entries lines ≡ entries others
    → HasTaken rank logs others reader
HasTaken_same rank logs lines others reader h good same = record {
  good = good;
  represents = subst (λ es. Represents reader.book (events_of es)) same h.represents;
  of_rank = h.of_rank;
  among = h.among;
  version = h.version ∙ ap version_of same;
  calls = h.calls ∙ ap calls_of same;
  end = h.end ∙ ap end_line same;
  known = subst (λ es. AreKnown (types_after (events_of es)) reader.lines) same h.known;
}

-- a line that says nothing
pub HasTaken_nothing : (rank logs : ℕ) (lines : List Checked) (line : Checked) (reader : Reader) → HasTaken rank logs lines reader → says_after lines line ≡ Ok None
    → HasTaken rank logs (more lines line) reader
HasTaken_nothing rank logs lines line reader h said =
    HasTaken_same rank logs lines (more lines line) reader h (AreGood_more rank logs lines line h.good (ap (λ it. judged rank logs (entries lines) it) said))
    (sym (entries_more lines line ∙ ap (λ it. entries lines ++ entry_of (length lines + 1) it) said ∙ append-nil (entries lines)))

-- the tables of the reader of lines may grow
pub HasTaken_grown : (rank logs : ℕ) (lines : List Checked) (old : Reader) (grown : Reading) → HasTaken rank logs lines old → Grows old.lines grown
    → HasTaken rank logs lines (record old { lines = grown })
HasTaken_grown rank logs lines old grown h grows = record {
  good = h.good;
  represents = h.represents;
  of_rank = h.of_rank;
  among = h.among;
  version = grows.version ∙ h.version;
  calls = grows.calls ∙ h.calls;
  end = h.end;
  known = known_grown (types_after (events_of (entries lines))) old.lines grown grows h.known;
}

-- the reason that a book gives is that of the definition
reason_is : (rank logs : ℕ) (lines : List Checked) (line : Checked) (old new : Reader) (stated : Stated) (reason : Option FormReason) → HasTaken rank logs lines old
    → says_after lines line ≡ Ok (Some stated) → IsJudged old.book new.book stated.event reason → line_reason rank logs lines line ≡ reason
reason_is rank logs lines line old new stated reason h said given =
    let events = events_of (entries lines) in
    ap (λ it. judged rank logs (entries lines) it) said
    ∙ sym (given.judged events h.represents ∙ ap (λ r. reason_of r old.book.logs events stated.event) h.of_rank ∙ ap (λ n. reason_of rank n events stated.event) h.among)

-- the reader stops at the first line that is bad
HasStopped_now : (rank logs : ℕ) (lines : List Checked) (line : Checked) (old new : Reader) (fault : FormFault) → HasTaken rank logs lines old
    → line_reason rank logs lines line ≡ Some fault.reason → fault.line.0 ≡ length lines + 1 → new.lines.calls.calls ≡ old.lines.calls.calls → new.end ≡ old.end
    → HasStopped rank logs (more lines line) new fault
unfolding IsFirstBad_now
HasStopped_now rank logs lines line old new fault h bad number calls end = record {
  bad = IsFirstBad_now rank logs lines line fault h.good bad number;
  calls = calls ∙ h.calls ∙ ap (λ before. calls_of (entries before)) (sym (take_whole lines line));
  end = end ∙ h.end ∙ ap (λ before. end_line (entries before)) (sym (take_whole lines line));
}

pub HasRead_refused : (rank logs : ℕ) (lines : List Checked) (line : Checked) (old new : Reader) (fault : FormFault) → HasTaken rank logs lines old
    → line_reason rank logs lines line ≡ Some fault.reason → fault.line.0 ≡ length lines + 1 → new ≡ record old { fault = Some fault } → HasRead rank logs (more lines line) new
HasRead_refused rank logs lines line old new fault h bad number same =
    subst (λ reader. HasRead rank logs (more lines line) reader) (sym same) (HasStopped_now rank logs lines line old (record old { fault = Some fault }) fault h bad number refl refl)

-- one good line more was taken
HasTaken_more : (rank logs : ℕ) (lines : List Checked) (line : Checked) (old new : Reader) (at : LineNo) (stated : Stated) → HasTaken rank logs lines old
    → says_after lines line ≡ Ok (Some stated) → at.0 ≡ length lines + 1 → Takes old new at stated → HasTaken rank logs (more lines line) new
HasTaken_more rank logs lines line old new at stated h said number takes =
    let entry : Entry = record { line = at; stated = stated } in
    let es = entries lines in
    let all : es ++ entry ∷ [] ≡ entries (more lines line) = sym (entries_stated lines line at stated said number) in
    record {
      good = AreGood_more rank logs lines line h.good (reason_is rank logs lines line old new stated None h said takes.judged);
      represents = subst (λ them. Represents new.book (events_of them)) all
          (subst (λ events. Represents new.book events) (sym (events_of_more es entry)) (takes.judged.taken refl (events_of es) h.represents));
      of_rank = takes.judged.rank ∙ h.of_rank;
      among = takes.judged.logs ∙ h.among;
      version = takes.version ∙ ap (λ v. unwrap_or (named_version stated.event) v) h.version ∙ sym (version_of_more es entry) ∙ ap version_of all;
      calls = takes.calls (events_of es) h.represents ∙ ap (λ cs. cs ++ option_to_list (call_of (events_of es) entry)) h.calls ∙ sym (calls_of_more es entry) ∙ ap calls_of all;
      end = takes.end ∙ ap (λ o. option_or (cond (is_end stated.event) (Some at) None) o) h.end ∙ sym (end_line_more es entry) ∙ ap end_line all;
      known = subst (λ them. AreKnown (types_after (events_of them)) new.lines) all
          (subst (λ events. AreKnown (types_after events) new.lines) (sym (events_of_more es entry)) (takes.known (events_of es) h.represents h.known));
    }

-- one line more was taken or refused
pub HasRead_more : (rank logs : ℕ) (lines : List Checked) (line : Checked) (old new : Reader) (at : LineNo) (stated : Stated) → HasTaken rank logs lines old
    → says_after lines line ≡ Ok (Some stated) → at.0 ≡ length lines + 1 → Reads old new at stated → HasRead rank logs (more lines line) new
HasRead_more rank logs lines line old new at stated h said number reads = step new.fault reads
  where
    step : (fault : Option FormFault) → GoesOn old new at stated fault → IsBehind rank logs (more lines line) new fault
    step None takes = HasTaken_more rank logs lines line old new at stated h said number takes
    step (Some fault) refuses =
        HasStopped_now rank logs lines line old new fault h (reason_is rank logs lines line old new stated (Some fault.reason) h said refuses.judged)
        (ap (λ (l : LineNo). l.0) refuses.line ∙ number) refuses.calls refuses.end

pub Reads_taken : (old new : Reader) (at : LineNo) (stated : Stated) → Takes old new at stated → new.fault ≡ None → Reads old new at stated
Reads_taken old new at stated takes none = subst (λ fault. GoesOn old new at stated fault) (sym none) takes

pub Reads_refused : (old new : Reader) (at : LineNo) (stated : Stated) (fault : FormFault) → Refuses old new at stated fault → new.fault ≡ Some fault → Reads old new at stated
Reads_refused old new at stated fault refuses some = subst (λ found. GoesOn old new at stated found) (sym some) refuses

-- only a header names a version
no_version : (event : Event) → is_header event ≡ false → named_version event ≡ None
no_version (Header version rank size) plain = absurd (false≢true (sym plain))
no_version End plain = refl
no_version (Call call request) plain = refl
no_version (Datatype line) plain = refl
no_version (Rma line request) plain = refl
no_version (Local line) plain = refl

-- the tables may have grown before, and words may have been noted that state what their numbers do
pub Reads_before : (old new : Reader) (lines : Reading) (at : LineNo) (stated : Stated) → lines.version ≡ old.lines.version → lines.calls.calls ≡ old.lines.calls.calls
    → ((types : Table) → AreKnown types old.lines → AreKnown types lines) → Reads (record old { lines = lines }) new at stated → Reads old new at stated
Reads_before old new lines at stated version calls known reads = step new.fault reads
  where
    step : (fault : Option FormFault) → GoesOn (record old { lines = lines }) new at stated fault → GoesOn old new at stated fault
    step None takes = record {
      judged = takes.judged;
      version = takes.version ∙ ap (λ v. unwrap_or (named_version stated.event) v) version;
      calls = λ events h. takes.calls events h ∙ ap (λ cs. cs ++ option_to_list (call_of events (record { line = at; stated = stated }))) calls;
      end = takes.end;
      known = λ events h are. takes.known events h (known (types_after events) are);
    }
    step (Some fault) refuses = record {
      judged = refuses.judged;
      line = refuses.line;
      calls = refuses.calls ∙ calls;
      end = refuses.end;
    }

-- the site of a number is what stands there
site_is : (table : CallTable) (site : Option ℕ) (text : Option (List ℕ)) → IsSite table site text → option_and_then (slice_get table.sites) site ≡ text
site_is table None text is = sym is
site_is table (Some number) text is = is.1 ∙ sym is.2

-- a call was appended that does what has a number
module _ (old new : Reader) (book : BookState) (at : LineNo) (event : Event) (text : Option (List ℕ)) (site : Option ℕ) (what : ℕ) (number : Option ℕ) (does : What) (request : Option (List ℕ))
    (lines : new.lines ≡ record old.lines {
      calls = record old.lines.calls {
        calls = old.lines.calls.calls ++ record { line = at; site = option_and_then (slice_get old.lines.calls.sites) site; what = does; request = number } ∷ [];
      };
    })
    (same : new.book ≡ book) (end : new.end ≡ old.end) (fault : new.fault ≡ old.fault)
    (call : IsCallOf old.book.types does request event) (given : IsJudged old.book book event None) (sited : IsSite old.lines.calls site text)
    (numbered : (events : List Event) → Represents old.book events → number ≡ request_number events (attributes_of event)) where
  abbrev is_call : IsCall old.book.types event
  is_call = call_is old.book.types does request event call

  unnamed : named_version event ≡ None
  unnamed = no_version event is_call.plain

  appended : (events : List Event) → Represents old.book events → Some (call_with at (option_and_then (slice_get old.lines.calls.sites) site) number does) ≡ call_of events (record { line = at; stated = record { event = event; site = text } })
  appended events h =
      ap (λ own. Some (call_with at own number does)) (site_is old.lines.calls site text sited) ∙ ap (λ n. Some (call_with at text n does)) (numbered events h)
      ∙ sym (ap (option_map (call_with at text (request_number events (attributes_of event)))) (sym (what_in_same old.book.types (types_after events) h.types event) ∙ call.does))

  pub Takes_call : Takes old new at (record { event = event; site = text })
  Takes_call = record {
    judged = subst (λ (b : BookState). IsJudged old.book b event None) (sym same) given;
    version = ap (λ (reading : Reading). reading.version) lines ∙ sym (ap (λ v. unwrap_or v old.lines.version) unnamed);
    calls = λ events h. ap (λ (reading : Reading). reading.calls.calls) lines ∙ ap (λ c. old.lines.calls.calls ++ option_to_list c) (appended events h);
    end = end ∙ sym (ap (λ b. option_or (cond b (Some at) None) old.end) is_call.goes_on);
    known = λ events h are. known_on events event new.lines is_call.other (subst (AreKnown (types_after events)) (sym lines) (λ known among. are known among));
  }

-- it stays so where the table of sites grows
pub site_kept : (old new : CallTable) → ((number : ℕ) (value : List ℕ) → slice_get old.sites number ≡ Some value → slice_get new.sites number ≡ Some value)
    → (site : Option ℕ) (text : Option (List ℕ)) → IsSite old site text → IsSite new site text
site_kept old new keeps None text is = is
site_kept old new keeps (Some number) text is = (is.0, keeps number is.0 is.1, is.2)

-- words that are there are so as they are referred to
pub said_words : {A B : Type 0} (f : A → B) (P : B → Type 0) (o : Option A) → IfSome o (λ a. P (f a)) → IfSome (option_map f o) P
said_words f P None said = tt
said_words f P (Some a) said = said

-- a number was given to what a call does, and words may have been noted
pub Adds_plain : (old : Reader) (grown : Reading) (what : What) (request : Option (List ℕ)) (lasts : Bool) → Grows old.lines grown → Adds old (record old { lines = grown }) None what request lasts
Adds_plain old grown what request lasts grows = record {
  same = refl;
  version = grows.version;
  calls = grows.calls;
  sites = grows.sites;
  known = λ types event are said call lasting. known_grown types old.lines grown grows are;
}

pub Adds_noted : (old : Reader) (grown noted : Reading) (own : List ℕ) (what : What) (number : ℕ) (request : Option (List ℕ)) (lasts : Bool) → Grows old.lines grown
    → slice_get grown.calls.whats number ≡ Some what → noted ≡ record grown { known = noted.known }
    → ((known : Known) → IsAmong noted.known known → IsAmong grown.known known ⊎ (known ≡ record { version = grown.version; words = own; what = number; request = request; lasts = lasts }))
    → Adds old (record old { lines = noted }) (Some own) what request lasts
Adds_noted old grown noted own what number request lasts grows is same more = record {
  same = refl;
  version = ap (λ (reading : Reading). reading.version) same ∙ grows.version;
  calls = ap (λ (reading : Reading). reading.calls.calls) same ∙ grows.calls;
  sites = λ n value found. ap (λ (reading : Reading). slice_get reading.calls.sites n) same ∙ grows.sites n value found;
  known = λ types event are said call lasting.
      known_noted types grown noted (record { version = grown.version; words = own; what = number; request = request; lasts = lasts }) (ap (λ (reading : Reading). reading.calls) same) more
      (record { event = event; said = subst (λ v. IsStatedBy v own event) (sym grows.version) said; what = what; is = is; call = call; lasting = lasting })
      (known_grown types old.lines grown grows are);
}

-- the same words may be noted once more, for an era
pub Adds_more : (old mid : Reader) (noted : Reading) (own : List ℕ) (what : What) (number : ℕ) (request : Option (List ℕ)) (lasts : Bool) → Adds old mid (Some own) what request lasts
    → slice_get mid.lines.calls.whats number ≡ Some what → noted ≡ record mid.lines { known = noted.known }
    → ((known : Known) → IsAmong noted.known known → IsAmong mid.lines.known known ⊎ (known ≡ record { version = mid.lines.version; words = own; what = number; request = request; lasts = false }))
    → Adds old (record mid { lines = noted }) (Some own) what request lasts
Adds_more old mid noted own what number request lasts adds is same more = record {
  same = ap (λ (r : Reader). record r { lines = noted }) adds.same;
  version = ap (λ (reading : Reading). reading.version) same ∙ adds.version;
  calls = ap (λ (reading : Reading). reading.calls.calls) same ∙ adds.calls;
  sites = λ n value found. ap (λ (reading : Reading). slice_get reading.calls.sites n) same ∙ adds.sites n value found;
  known = λ types event are said call lasting.
      known_noted types mid.lines noted (record { version = mid.lines.version; words = own; what = number; request = request; lasts = false }) (ap (λ (reading : Reading). reading.calls) same) more
      (record { event = event; said = subst (λ v. IsStatedBy v own event) (sym adds.version) said; what = what; is = is; call = call; lasting = λ lasts. absurd (false≢true lasts) })
      (adds.known types event are said call lasting);
}

-- a call was appended of which a number was given
pub Appends_added : (old mid new : Reader) (words request : Option (List ℕ)) (what : What) (at : LineNo) (site : Option ℕ) (text : Option (List ℕ)) (number : Option ℕ) (lines : Reading)
    → Adds old mid words what request false → IsSite old.lines.calls site text → new ≡ record mid { lines = lines }
    → lines ≡ record mid.lines {
      calls = record mid.lines.calls {
        calls = mid.lines.calls.calls ++ record { line = at; site = option_and_then (slice_get mid.lines.calls.sites) site; what = what; request = number } ∷ [];
      };
    }
    → Appends old new words request (call_with at text number what)
Appends_added old mid new words request what at site text number lines adds sited same pushed = record {
  book = ap (λ (r : Reader). r.book) same ∙ ap (λ (r : Reader). r.book) adds.same;
  version = ap (λ (r : Reader). r.lines.version) same ∙ ap (λ (reading : Reading). reading.version) pushed ∙ adds.version;
  calls = ap (λ (r : Reader). r.lines.calls.calls) same ∙ ap (λ (reading : Reading). reading.calls.calls) pushed
      ∙ ap (λ own. mid.lines.calls.calls ++ call_with at own number what ∷ []) (site_is mid.lines.calls site text (site_kept old.lines.calls mid.lines.calls adds.sites site text sited))
      ∙ ap (λ cs. cs ++ call_with at text number what ∷ []) adds.calls;
  end = ap (λ (r : Reader). r.end) same ∙ ap (λ (r : Reader). r.end) adds.same;
  fault = ap (λ (r : Reader). r.fault) same ∙ ap (λ (r : Reader). r.fault) adds.same;
  known = λ types event are said call.
      subst (AreKnown types) (sym (ap (λ (r : Reader). r.lines) same ∙ pushed))
      (λ known among. adds.known types event are said call (λ lasts. absurd (false≢true lasts)) known among);
}

-- an access was taken
module _ (old new : Reader) (book : BookState) (at : LineNo) (event : Event) (site words request : Option (List ℕ)) (what : What) (number : Option ℕ)
    (appends : Appends (record old { book = book }) new words request (call_with at site number what)) (given : IsJudged old.book book event None)
    (good : (events : List Event) → Represents old.book events → IsGoodAccess events event (access.Good what number)) (asks : request_of event ≡ request)
    (goes_on : is_end event ≡ false) (other : is_datatype event ≡ false) (unnamed : named_version event ≡ None) (said : IfSome words (λ own. IsStatedBy old.lines.version own event)) where
  abbrev call_in : List Event → Option CallOf
  call_in events = call_of events (record { line = at; stated = record { event = event; site = site } })

  entry_is : (events : List Event) → Represents old.book events → call_in events ≡ Some (call_with at site number what)
  entry_is events h =
      ap (option_map (call_with at site (request_number events (attributes_of event)))) (good events h).0 ∙ ap (λ n. Some (call_with at site n what)) (sym (good events h).1)

  pub Takes_access : Takes old new at (record { event = event; site = site })
  Takes_access = record {
    judged = subst (λ (b : BookState). IsJudged old.book b event None) (sym appends.book) given;
    version = appends.version ∙ sym (ap (λ v. unwrap_or v old.lines.version) unnamed);
    calls = λ events h. appends.calls ∙ ap (λ c. old.lines.calls.calls ++ option_to_list c) (sym (entry_is events h));
    end = appends.end ∙ sym (ap (λ b. option_or (cond b (Some at) None) old.end) goes_on);
    known = λ events h are.
        known_on events event new.lines other
        (appends.known (types_after events) event are said
        (record { does = (good events h).0; request = asks; good = typed_none old.book.rank old.book.logs events event (sym (given.judged events h)) }));
  }

-- whatever the site is
pub Reads_stated : (old new : Reader) (at : LineNo) (event : Event) (stated : Stated) → ((site : Option (List ℕ)) → Reads old new at (record { event = event; site = site }))
    → stated.event ≡ event → Reads old new at stated
Reads_stated old new at event stated reads same = subst (λ e. Reads old new at (record { event = e; site = stated.site })) (sym same) (reads stated.site)

-- a reader that found no bad line has taken all
pub HasTaken_read : (rank logs : ℕ) (lines : List Checked) (reader : Reader) → HasRead rank logs lines reader → reader.fault ≡ None → HasTaken rank logs lines reader
HasTaken_read rank logs lines reader h none = subst (λ fault. IsBehind rank logs lines reader fault) none h

pub HasRead_taken : (rank logs : ℕ) (lines : List Checked) (reader : Reader) → HasTaken rank logs lines reader → reader.fault ≡ None → HasRead rank logs lines reader
HasRead_taken rank logs lines reader h none = subst (λ fault. IsBehind rank logs lines reader fault) (sym none) h

-- behind a bad line nothing changes
pub HasRead_bad : (rank logs : ℕ) (lines : List Checked) (line : Checked) (reader : Reader) → HasRead rank logs lines reader → is_some reader.fault ≡ true → HasRead rank logs (more lines line) reader
unfolding IsFirstBad_more
HasRead_bad rank logs lines line reader h bad = step reader.fault h bad
  where
    step : (fault : Option FormFault) → IsBehind rank logs lines reader fault → is_some fault ≡ true → IsBehind rank logs (more lines line) reader fault
    step None h bad = absurd (false≢true bad)
    step (Some fault) h bad =
        let below = slice_get_within lines h.bad.place h.bad.line h.bad.there in
        let front = sym (take_front h.bad.place lines line (omega (arith, below))) in
        record {
          bad = IsFirstBad_more rank logs lines line fault h.bad;
          calls = h.calls ∙ ap (λ before. calls_of (entries before)) front;
          end = h.end ∙ ap (λ before. end_line (entries before)) front;
        }

-- ---- what was read so far

pub first_fault : (rank logs : ℕ) (lines : List Checked) (reader : Reader) → HasRead rank logs lines reader → IsFirstFault rank logs lines reader.fault
first_fault rank logs lines reader h = step reader.fault h
  where
    step : (fault : Option FormFault) → IsBehind rank logs lines reader fault → IsFirstFault rank logs lines fault
    step None h = h.good
    step (Some fault) h = h.bad

pub HasGood_read : (rank logs : ℕ) (lines : List Checked) (reader : Reader) → HasRead rank logs lines reader → HasGood rank logs lines reader
HasGood_read rank logs lines reader h = step reader.fault h
  where
    step : (fault : Option FormFault) → IsBehind rank logs lines reader fault → HasGood rank logs lines reader
    step None h =
        let all = sym (take-length lines) in
        record {
          count = length lines;
          until = record {
            good = subst (λ them. AreGood rank logs them) all h.good;
            bad = λ line found. let below = slice_get_within lines (length lines) line found in absurd (omega (arith, below));
          };
          calls = h.calls ∙ ap (λ them. calls_of (entries them)) all;
          end = h.end ∙ ap (λ them. end_line (entries them)) all;
        }
    step (Some fault) h = record {
      count = h.bad.place;
      until = record {
        good = h.bad.good;
        bad = λ line found.
            let same : Some h.bad.line ≡ Some line = sym h.bad.there ∙ found in
            let line_is : h.bad.line ≡ line = cc in
            subst IsSome (sym (ap (λ it. line_reason rank logs (take h.bad.place lines) it) (sym line_is) ∙ h.bad.bad)) refl;
      };
      calls = h.calls;
      end = h.end;
    }

-- ---- answers

-- what holds in any case holds where there is an answer
pub OnOk_any : {X E B : Type 0} → (r : Result X E) → B → OnOk r B
OnOk_any (Ok x) h = h
OnOk_any (Err e) h = tt

pub none_from : {X : Type 0} → (o : Option X) → is_some o ≡ false → o ≡ None
none_from None h = refl
none_from (Some x) h = absurd (false≢true (sym h))

-- ---- a cutter and the lines that it hands out

-- the lines in front of the next one
pub lines_before : (n : ℕ) (lines : List Checked) (line : Checked) → slice_get lines n ≡ Some line → length (take n lines) ≡ n
lines_before n lines line found = let below = slice_get_within lines n line found in simp length-take (omega (arith, below))

take_found : (n : ℕ) (lines : List Checked) (line : Checked) → slice_get lines n ≡ Some line → take (n + 1) lines ≡ more (take n lines) line
take_found n lines line found = take_more lines n line (slice_get_within lines n line found) ∙ ap (λ it. take n lines ++ it ∷ []) (get_or_from_slice_get lines n line line found)

-- the cutter handed out a line, and the reader read it
pub IsReading_more : (rank logs : ℕ) (before after : Cutting) (text : List ℕ) (line : Checked) (reader : Reader) → cutting.Represents after text
    → slice_get (checked_lines text) before.handed ≡ Some line → after.handed ≡ before.handed + 1
    → HasRead rank logs (more (take before.handed (checked_lines text)) line) reader → IsReading rank logs after text reader
IsReading_more rank logs before after text line reader stands found one h = record {
  represents = stands;
  read = subst (λ lines. HasRead rank logs lines reader) (sym (ap (λ n. take n (checked_lines text)) one ∙ take_found before.handed (checked_lines text) line found)) h;
}

-- a piece more leaves what was read as it is
pub IsReading_fed : (rank logs : ℕ) (before after : Cutting) (text piece : List ℕ) (reader : Reader) → before.closed ≡ false → after.handed ≡ before.handed
    → cutting.Represents after (text ++ piece) → IsReading rank logs before text reader → IsReading rank logs after (text ++ piece) reader
IsReading_fed rank logs before after text piece reader goes_on same stands h = record {
  represents = stands;
  read = subst (λ lines. HasRead rank logs lines reader)
      (sym (ap (λ n. take n (checked_lines (text ++ piece))) same ∙ handed_stay before text h.represents piece goes_on)) h.read;
}

-- the end of the text leaves what was read as it is
pub IsReading_closed : (rank logs : ℕ) (before after : Cutting) (text : List ℕ) (reader : Reader) → after.handed ≡ before.handed → cutting.Represents after text
    → IsReading rank logs before text reader → IsReading rank logs after text reader
IsReading_closed rank logs before after text reader same stands h = record {
  represents = stands;
  read = subst (λ n. HasRead rank logs (take n (checked_lines text)) reader) (sym same) h.read;
}

-- all lines were read
pub IsReading_all : (rank logs : ℕ) (cutter : Cutting) (text : List ℕ) (reader : Reader) → cutter.handed ≡ length (lines text) → IsReading rank logs cutter text reader
    → HasRead rank logs (checked_lines text) reader
IsReading_all rank logs cutter text reader all h =
    subst (λ them. HasRead rank logs them reader) (ap (λ n. take n (checked_lines text)) (all ∙ sym (length_checked_lines text)) ∙ take-length (checked_lines text)) h.read
