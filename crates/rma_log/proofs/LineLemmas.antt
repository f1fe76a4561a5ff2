-- Lines that are read: those whose text is read anew, those whose words are known, and accesses elsewhere.
use Rattle.std.proofs.Common.{◌≡◌, ℕ, List, slice_get, Option, Some, None, Result, Ok, Err, false, sym, ap, subst, ◌∙◌}
use Rattle.std.proofs.lemmas.Bool.{false≢true}
use Rattle.rma_base.specs.declared.form_reason.FormReason.{FormReason}
use Rattle.rma_base.specs.declared.line.LineNo.{LineNo}
use Rattle.rma_lex.specs.Line.{lines}
use Rattle.rma_form.specs.declared.event.Event.{Event}
use Rattle.rma_form.specs.declared.event.Stated.{Stated}
use Rattle.rma_form.specs.Lines.{reading, site_of}
use Rattle.rma_field.specs.Steps.{Fails, ◌>>=◌}
use Rattle.rma_field.specs.declared.parse_error.ParseError.TheVariants.{Fault}
use Rattle.rma_call.specs.declared.what.What.{What}
use Rattle.rma_known.specs.Known.{Known, IsKnownLine}
use Rattle.rma_known.specs.Split.{IsSplit, SplitText}
use Rattle.rma_reader.specs.Reading.{Reading, Grows}
use Rattle.rma_reader.specs.Sites.{IsSite, IsSiteOf}
use Rattle.rma_reader.proofs.ReaderLemmas.{fails_at}
use Rattle.rma_reader.proofs.SiteLemmas.{at_site, reading_split, stated_at}
use Rattle.rma_type.specs.Table.{Table}
use Rattle.rma_judge.specs.Types.{types_after}
use Rattle.rma_log.specs.Calls.{events_of}
use Rattle.rma_log.specs.Logs.{Checked, entries, judged}
use Rattle.rma_log.specs.declared.reader.Reader.{Reader}
use Rattle.rma_judge.specs.inside.BookState.{BookState, Represents}
use Rattle.rma_log.specs.inside.Known.{IsKnownCall, StatesWhat}
use Rattle.rma_judge.specs.inside.CallEvent.{IsCallOf}
use Rattle.rma_elsewhere.specs.Elsewhere.{IsStatedBy}
use Rattle.rma_log.specs.inside.Reading.{Adds, HasTaken, HasRead, ReadsNext, Reads}
use Rattle.rma_judge.proofs.CallLemmas.{call_same}
use Rattle.rma_log.proofs.ReadingLemmas.{HasRead_more, HasRead_refused, HasRead_taken, HasTaken_grown, HasTaken_nothing, HasTaken_read}

-- ---- a line whose text was read, where the tables of the reader of lines have grown

module _ (old : Reader) (grown : Reading) (at : LineNo) (text : List ℕ) (none : old.fault ≡ None) (grows : Grows old.lines grown) where
  pub ReadsNext_nothing : reading old.lines.version text ≡ Ok None → ReadsNext old (record old { lines = grown }) at.0 (Ok text)
  ReadsNext_nothing said rank logs before number h =
      let taken = HasTaken_read rank logs before old h none in
      HasRead_taken rank logs _ _
      (HasTaken_nothing rank logs before (Ok text) _ (HasTaken_grown rank logs before old grown taken grows) (ap (λ v. reading v text) (sym taken.version) ∙ said))
      none

  pub ReadsNext_stated : (new : Reader) (stated : Stated) → reading old.lines.version text ≡ Ok (Some stated) → Reads (record old { lines = grown }) new at stated
      → ReadsNext old new at.0 (Ok text)
  ReadsNext_stated new stated said reads rank logs before number h =
      let taken = HasTaken_read rank logs before old h none in
      HasRead_more rank logs before (Ok text) _ new at stated (HasTaken_grown rank logs before old grown taken grows)
      (ap (λ v. reading v text) (sym taken.version) ∙ said) number reads

  pub ReadsNext_refused : (new : Reader) (reason : FormReason) → reading old.lines.version text ≡ Err reason
      → new ≡ record old { lines = grown; fault = Some (record { line = at; reason = reason }) } → ReadsNext old new at.0 (Ok text)
  ReadsNext_refused new reason said refused rank logs before number h =
      let taken = HasTaken_read rank logs before old h none in
      let bad = ap (λ (it : Result (Option Stated) FormReason). judged rank logs (entries before) it) (ap (λ v. reading v text) (sym taken.version) ∙ said) in
      HasRead_refused rank logs before (Ok text) _ new (record { line = at; reason = reason }) (HasTaken_grown rank logs before old grown taken grows) bad number refused

-- ---- a line whose words are known

module _ (old : Reader) (grown : Reading) (at : LineNo) (line : SplitText) (known : Known) (none : old.fault ≡ None) (grows : Grows old.lines grown)
    (own : IsKnownLine old.lines.known old.lines.version line known) where
  -- what the line states, where the words do what is known of them
  said_of : (types : Table) (whats : List What) → (is : IsKnownCall types whats known) → reading old.lines.version line.line ≡ stated_at is.event line.site
  said_of types whats is =
      reading_split old.lines.version line.line line.words line.site is.event own.split
      (ap (λ v. reading v line.words) (sym own.version) ∙ ap (reading known.version) (sym own.words) ∙ is.said)

  pub ReadsNext_known : (new : Reader) (number : Option ℕ) → IsSiteOf grown.calls line.site number
      → ((does : What) (event : Event) (site : Option (List ℕ)) → slice_get grown.calls.whats known.what ≡ Some does → IsCallOf old.book.types does known.request event
      → IsSite grown.calls number site → Reads (record old { lines = grown }) new at (record { event = event; site = site }))
      → ReadsNext old new at.0 (Ok line.line)
  ReadsNext_known new number sited reads rank logs before place h =
      let taken = HasTaken_read rank logs before old h none in
      let is = taken.known known own.among in
      HasRead_more rank logs before (Ok line.line) _ new at (record { event = is.event; site = line.site }) (HasTaken_grown rank logs before old grown taken grows)
      (ap (λ v. reading v line.line) (sym taken.version) ∙ said_of _ _ is ∙ ap (λ good. good >>= λ site. Ok (Some (at_site is.event site))) sited.0) place
      (reads is.what is.event line.site (grows.whats known.what is.what is.is)
      (call_same old.book.types (types_after (events_of (entries before))) taken.represents.types is.what known.request is.event is.call) sited.1)

  pub ReadsNext_bad : (new : Reader) (reason : FormReason) → Fails (Fault (record { reason = reason })) (site_of line.site)
      → new ≡ record old { lines = grown; fault = Some (record { line = at; reason = reason }) } → ReadsNext old new at.0 (Ok line.line)
  ReadsNext_bad new reason bad refused rank logs before place h =
      let taken = HasTaken_read rank logs before old h none in
      let is = taken.known known own.among in
      ReadsNext_refused old grown at line.line none grows new reason (said_of _ _ is ∙ fails_at (Fault (record { reason = reason })) is.event line.site bad) refused rank logs before place h

-- ---- a line whose words state an access elsewhere

-- a number was given to what it does
HasTaken_added : (rank logs : ℕ) (lines : List Checked) (old new : Reader) (words : List ℕ) (what : What) (request : Option (List ℕ)) (event : Event) → Adds old new (Some words) what request false → HasTaken rank logs lines old
    → IsStatedBy old.lines.version words event → IsCallOf (types_after (events_of (entries lines))) what request event → HasTaken rank logs lines new
HasTaken_added rank logs lines old new words what request event adds h said call =
    let books = ap (λ (r : Reader). r.book) adds.same in
    record {
      good = h.good;
      represents = subst (λ book. Represents book (events_of (entries lines))) (sym books) h.represents;
      of_rank = ap (λ (book : BookState). book.rank) books ∙ h.of_rank;
      among = ap (λ (book : BookState). book.logs) books ∙ h.among;
      version = adds.version ∙ h.version;
      calls = adds.calls ∙ h.calls;
      end = ap (λ (r : Reader). r.end) adds.same ∙ h.end;
      known = adds.known (types_after (events_of (entries lines))) event h.known said call (λ lasts. absurd (false≢true lasts));
    }

module _ (old mid new : Reader) (grown : Reading) (at : LineNo) (line : SplitText) (what : What) (request : Option (List ℕ)) (none : old.fault ≡ None)
    (adds : Adds old mid (Some line.words) what request false)
    (grows : Grows mid.lines grown) (split : IsSplit line.line line.words line.site) (states : StatesWhat old.lines line.words what request) where
  unfaulted : mid.fault ≡ None
  unfaulted = ap (λ (r : Reader). r.fault) adds.same ∙ none

  read_added : (rank logs : ℕ) (before : List Checked) → HasRead rank logs before old → HasRead rank logs before mid
  read_added rank logs before h =
      let taken = HasTaken_read rank logs before old h none in
      let is = states (types_after (events_of (entries before))) taken.known in
      HasRead_taken rank logs before mid (HasTaken_added rank logs before old mid line.words what request is.0 adds taken is.1 is.2) unfaulted

  stated_split : (event : Event) → IsStatedBy old.lines.version line.words event → reading mid.lines.version line.line ≡ stated_at event line.site
  stated_split event said = reading_split mid.lines.version line.line line.words line.site event split (subst (λ v. IsStatedBy v line.words event) (sym adds.version) said)

  pub ReadsNext_elsewhere : (site : Option ℕ) → IsSiteOf grown.calls line.site site
      → ((event : Event) (text : Option (List ℕ)) → IsCallOf mid.book.types what request event → IsSite grown.calls site text → Reads (record mid { lines = grown }) new at (record { event = event; site = text }))
      → ReadsNext old new at.0 (Ok line.line)
  ReadsNext_elsewhere site sited reads rank logs before place h =
      let taken = HasTaken_read rank logs before old h none in
      let types = types_after (events_of (entries before)) in
      let is = states types taken.known in
      let own = subst (λ (book : BookState). IsCallOf book.types what request is.0) (sym (ap (λ (r : Reader). r.book) adds.same)) (call_same old.book.types types taken.represents.types what request is.0 is.2) in
      ReadsNext_stated mid grown at line.line unfaulted grows new (record { event = is.0; site = line.site })
      (stated_split is.0 is.1 ∙ ap (λ good. good >>= λ text. Ok (Some (at_site is.0 text))) sited.0) (reads is.0 line.site own sited.1) rank logs before place (read_added rank logs before h)

  pub ReadsNext_unsited : (reason : FormReason) → Fails (Fault (record { reason = reason })) (site_of line.site) → new ≡ record mid { lines = grown; fault = Some (record { line = at; reason = reason }) }
      → ReadsNext old new at.0 (Ok line.line)
  ReadsNext_unsited reason bad refused rank logs before place h =
      let taken = HasTaken_read rank logs before old h none in
      let is = states (types_after (events_of (entries before))) taken.known in
      ReadsNext_refused mid grown at line.line unfaulted grows new reason (stated_split is.0 is.1 ∙ fails_at (Fault (record { reason = reason })) is.0 line.site bad) refused rank logs before place
      (read_added rank logs before h)
