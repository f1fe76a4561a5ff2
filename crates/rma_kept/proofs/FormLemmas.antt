-- The lines of calls that have a request always give its name.
use Rattle.std.proofs.Common.{◌≡◌, ℕ, Bool, true, false, List, [], ◌∷◌, drop, length, Some, None, IsSome, Result, Ok, Err, refl, ap, subst, ◌∙◌}
use Rattle.std.specs.Prelude.{if◌then◌else◌}
use Rattle.std.proofs.lemmas.Bool.{false≢true}
use Rattle.rma_base.specs.declared.form_reason.FormReason.{FormReason}
use Rattle.rma_base.specs.declared.version.Version.{Version}
use Rattle.rma_field.specs.Kinds.{Kind, Value, meaning}
use Rattle.rma_field.specs.Steps.{◌>>=◌}
use Rattle.rma_form.specs.Fields.{Made, made_of}
use Rattle.rma_form.specs.Forms.{event_in, event_of, form_at, form_of, kind_words, version_in}
use Rattle.rma_form.specs.Lines.{begins_with, counted, fields_of, read_words, reading, site_of, site_text, stated_by, stated_in}
use Rattle.rma_form.specs.Tails.{TailValue, tail_of}
use Rattle.rma_form.specs.declared.event.Event.{Event}
use Rattle.rma_form.specs.declared.event.Stated.{Stated}
use Rattle.rma_form.specs.declared.form.LineForm.{LineForm}
use Rattle.rma_form.specs.declared.form.LineForm.TheVariants as form
use Rattle.rma_lex.specs.Field.{fields, texts}
use Rattle.rma_kept.proofs.RequestNameLemmas.{event_has_request, named_request}

-- the event names its request, where it has one always
abbrev pub Named : Event → Type 0
Named event = event_has_request event ≡ true → IsSome (named_request event)

-- ---- what is made of fields

-- whatever the values are: so is what is made of them
abbrev AllMade : {A : Type 0} → (A → Type 0) → (kinds : List Kind) → Made kinds A → Type 0
AllMade Holds [] made = Holds made
AllMade Holds (kind ∷ kinds) make = (value : Value kind) → AllMade Holds kinds (make value)

passed : {A B : Type 0} → (step : Result A FormReason) (next : A → Result B FormReason) (y : B) → (step >>= next) ≡ Ok y → (x : A) × (step ≡ Ok x) × (next x ≡ Ok y)
passed (Ok x) next y h = (x, refl, h)
passed (Err reason) next y h = cc

all_made : {A : Type 0} → (Holds : A → Type 0) (v : Version) (kinds : List Kind) (make : Made kinds A) (words : List (List ℕ)) (made : A) → AllMade Holds kinds make → made_of v kinds make words ≡ Ok made → Holds made
all_made Holds v [] make words made all h = let same : make ≡ made = cc in subst Holds same all
all_made Holds v (kind ∷ kinds) make [] made all h = cc
all_made Holds v (kind ∷ kinds) make (word ∷ words) made all h =
    let step = passed (meaning v kind word) (λ value. made_of v kinds (make value) words) made h in
    all_made Holds v kinds (make step.0) words made (all step.0) step.2

-- ---- the rows of the forms

rows : (form : LineForm) → AllMade (λ make. (value : TailValue (form_at form).tail) → Named (make value)) (form_at form).kinds (form_at form).event
rows form.Header = λ a b c value has. absurd (false≢true has)
rows form.End = λ value has. absurd (false≢true has)
rows form.Comm = λ a b value has. absurd (false≢true has)
rows form.Barrier = λ a value has. absurd (false≢true has)
rows form.Send = λ a b c value has. absurd (false≢true has)
rows form.Recv = λ a b c value has. absurd (false≢true has)
rows form.Isend = λ a b c d value has. refl
rows form.Irecv = λ a b value has. refl
rows form.Wait = λ a value has. refl
rows form.Create = λ a b c d e f g value has. absurd (false≢true has)
rows form.Free = λ a value has. absurd (false≢true has)
rows form.Fence = λ a value has. absurd (false≢true has)
rows form.Post = λ a b value has. absurd (false≢true has)
rows form.Start = λ a b value has. absurd (false≢true has)
rows form.Complete = λ a value has. absurd (false≢true has)
rows form.Expwait = λ a value has. absurd (false≢true has)
rows form.Lock = λ a b c value has. absurd (false≢true has)
rows form.Unlock = λ a b value has. absurd (false≢true has)
rows form.LockAll = λ a value has. absurd (false≢true has)
rows form.UnlockAll = λ a value has. absurd (false≢true has)
rows form.Flush = λ a b value has. absurd (false≢true has)
rows form.FlushAll = λ a value has. absurd (false≢true has)
rows form.FlushLocal = λ a b value has. absurd (false≢true has)
rows form.FlushLocalAll = λ a value has. absurd (false≢true has)
rows form.Sync = λ a value has. absurd (false≢true has)
rows form.Dynamic = λ a b c value has. absurd (false≢true has)
rows form.Attach = λ a b c value has. absurd (false≢true has)
rows form.Detach = λ a b value has. absurd (false≢true has)
rows form.Bcast = λ a b c value has. absurd (false≢true has)
rows form.Scatter = λ a b c value has. absurd (false≢true has)
rows form.Gather = λ a b c value has. absurd (false≢true has)
rows form.Reduce = λ a b c value has. absurd (false≢true has)
rows form.Allreduce = λ a b value has. absurd (false≢true has)
rows form.Allgather = λ a b value has. absurd (false≢true has)
rows form.Alltoall = λ a b value has. absurd (false≢true has)
rows form.Contiguous = λ a b c value has. absurd (false≢true has)
rows form.Vector = λ a b c d e value has. absurd (false≢true has)
rows form.Hvector = λ a b c d e value has. absurd (false≢true has)
rows form.Indexed = λ a b value has. absurd (false≢true has)
rows form.Hindexed = λ a b value has. absurd (false≢true has)
rows form.IndexedBlock = λ a b c value has. absurd (false≢true has)
rows form.Struct = λ a value has. absurd (false≢true has)
rows form.Resized = λ a b c d value has. absurd (false≢true has)
rows form.Subarray = λ a b c value has. absurd (false≢true has)
rows form.Commit = λ a value has. absurd (false≢true has)
rows form.FreeType = λ a value has. absurd (false≢true has)
rows form.Put = λ a b c d e f g h value has. absurd (false≢true has)
rows form.Get = λ a b c d e f g h value has. absurd (false≢true has)
rows form.Accumulate = λ a b c d e f g h i value has. absurd (false≢true has)
rows form.GetAccumulate = λ a b c d e f g h i j k l value has. absurd (false≢true has)
rows form.FetchAndOp = λ a b c d e f g value has. absurd (false≢true has)
rows form.CompareAndSwap = λ a b c d e f g value has. absurd (false≢true has)
rows form.Rput = λ a b c d e f g h i value has. absurd (false≢true has)
rows form.Rget = λ a b c d e f g h i value has. absurd (false≢true has)
rows form.Raccumulate = λ a b c d e f g h i j value has. absurd (false≢true has)
rows form.RgetAccumulate = λ a b c d e f g h i j k l m value has. absurd (false≢true has)
rows form.Load = λ a b c value has. absurd (false≢true has)
rows form.Store = λ a b c value has. absurd (false≢true has)
rows form.Poll = λ a b c value has. absurd (false≢true has)

event_named : (v : Version) (form : LineForm) (words : List (List ℕ)) (event : Event) → event_in v form words ≡ Ok event → Named event
event_named v form words event h =
    let make = passed (made_of v (form_at form).kinds (form_at form).event words)
    (λ make. tail_of v (form_at form).tail (drop (length (form_at form).kinds) words) >>= λ value. Ok (make value)) event h in
    let value = passed (tail_of v (form_at form).tail (drop (length (form_at form).kinds) words)) (λ value. Ok (make.0 value)) event make.2 in
    let named : Named (make.0 value.0) =
    all_made (λ make. (value : TailValue (form_at form).tail) → Named (make value)) v (form_at form).kinds (form_at form).event words make.0 (rows form) make.1 value.0 in
    let same : make.0 value.0 ≡ event = cc in
    subst Named same named

-- ---- lines

stated_named : (v : Version) (verb : List ℕ) (rest : List (List ℕ)) (stated : Stated) → stated_by v verb rest ≡ Ok stated → Named stated.event
stated_named v verb rest stated h =
    let form = passed (form_of v verb (fields_of rest)) (λ form. stated_in v form (fields_of rest) (site_text rest)) stated h in
    let words = fields_of rest in
    let counts = passed (counted v form.0 words)
    (λ _. site_of (site_text rest) >>= λ site. event_of v form.0 (drop (kind_words form.0) words) >>= λ event. Ok (record { event = event; site = site })) stated form.2 in
    let site = passed (site_of (site_text rest)) (λ site. event_of v form.0 (drop (kind_words form.0) words) >>= λ event. Ok (record { event = event; site = site })) stated counts.2 in
    let event = passed (event_of v form.0 (drop (kind_words form.0) words)) (λ event. Ok (record { event = event; site = site.0 })) stated site.2 in
    let own : Stated = record { event = event.0; site = site.0 } in
    let same : own ≡ stated = cc in
    subst (λ (s : Stated). Named s.event) {x = own} same (event_named (version_in v form.0 (drop (kind_words form.0) words)) form.0 (drop (kind_words form.0) words) event.0 event.1)

words_named : (v : Version) (words : List (List ℕ)) (stated : Stated) → read_words v words ≡ Ok (Some stated) → Named stated.event
words_named v [] stated h = cc
words_named v (verb ∷ rest) stated h = by (begins_with 35 verb) h
  where
    by : (comment : Bool) → (if comment then Ok None else (stated_by v verb rest >>= λ stated. Ok (Some stated))) ≡ Ok (Some stated) → Named stated.event
    by true h = cc
    by false h =
        let step = passed (stated_by v verb rest) (λ stated. Ok (Some stated)) (Some stated) h in
        let same : step.0 ≡ stated = cc in
        stated_named v verb rest stated (step.1 ∙ ap Ok same)

-- a line that is read names the request of its call, where that has one always
pub line_named : (v : Version) (text : List ℕ) (stated : Stated) → reading v text ≡ Ok (Some stated) → Named stated.event
line_named v text stated h = words_named v (texts (fields text)) stated h
