-- A line whose words are known, with a site after them.
use Rattle.std.proofs.Common.{◌≡◌, ℕ, ◌-◌, true, false, List, [], ◌∷◌, ◌++◌, length, drop, Option, Some, None, Ok, Err, Result, refl, sym, ap, ◌∙◌, ⊎_elim, arith, length-append}
use Rattle.std.specs.List.{list_all}
use Rattle.std.proofs.lemmas.Bool.{cases_Bool}
use Rattle.std.proofs.Math.Seq.{take-append_seam}
use Rattle.rma_base.specs.declared.form_reason.FormReason.{FormReason}
use Rattle.rma_base.specs.declared.version.Version.{Version}
use Rattle.rma_base.specs.Site.{is_site}
use Rattle.rma_field.specs.Steps.{◌>>=◌}
use Rattle.rma_lex.specs.Field.{fields, is_blank, is_field, texts}
use Rattle.rma_form.specs.declared.event.Event.{Event}
use Rattle.rma_form.specs.declared.event.Stated.{Stated}
use Rattle.rma_form.specs.declared.form.LineForm.{LineForm}
use Rattle.rma_form.specs.Forms.{event_of, form_of, kind_words}
use Rattle.rma_form.specs.Lines.{begins_with, behind_at, counted, fields_of, last_or, read_words, reading, site_of, site_text, stated_by, stated_in, states}
use Rattle.rma_known.specs.Split.{IsSplit}
use Rattle.rma_known.proofs.WordLemmas.{texts_fields_last}

-- a step that went well
bind_ok : {A B : Type 0} (read : Result A FormReason) (next : A → Result B FormReason) (b : B) → (read >>= next) ≡ Ok b → (a : A) × (read ≡ Ok a) × (next a ≡ Ok b)
bind_ok (Ok a) next b is = (a, refl, is)
bind_ok (Err reason) next b is = absurd (cc is)

-- what is stated of an event at a site
abbrev pub at_site : Event → Option (List ℕ) → Stated
at_site event site = record { event = event; site = site }

-- what a line states whose words state this event, where this is the text of its site
abbrev pub stated_at : Event → Option (List ℕ) → Result (Option Stated) FormReason
stated_at event text = site_of text >>= λ site. Ok (Some (at_site event site))

-- the event at a site, if that is a good one
abbrev sited : Event → Option (List ℕ) → Result Stated FormReason
sited event text = site_of text >>= λ site. Ok (at_site event site)

-- only no site is read as none
no_site_text : (text : Option (List ℕ)) → site_of text ≡ Ok None → text ≡ None
no_site_text None is = refl
no_site_text (Some text) is =
    ⊎_elim
    (λ (good : is_site text ≡ true). absurd (let wrong = rw good at is in cc wrong))
    (λ (bad : is_site text ≡ false). absurd (let wrong = rw bad at is in cc wrong))
    (cases_Bool (is_site text))

-- what words state without a site, they state with one
stated_in_other : (v : Version) (form : LineForm) (words : List (List ℕ)) (event : Event) (before text : Option (List ℕ)) → stated_in v form words before ≡ Ok (at_site event None)
    → (before ≡ None) × (stated_in v form words text ≡ sited event text)
stated_in_other v form words event before text is =
    let counts = bind_ok (counted v form words) _ _ is in
    let good = bind_ok (site_of before) _ _ counts.2 in
    let made = bind_ok (event_of v form (drop (kind_words form) words)) _ _ good.2 in
    let same : at_site made.0 good.0 ≡ at_site event None = cc made.2 in (
      no_site_text before (good.1 ∙ ap (λ (s : Stated). Ok s.site) same),
      ap (λ read. read >>= λ _. site_of text >>= λ site. event_of v form (drop (kind_words form) words) >>= λ event. Ok (at_site event site)) counts.1
          ∙ ap (λ (it : Result Event FormReason). site_of text >>= λ site. it >>= λ event. Ok (at_site event site)) (made.1 ∙ ap (λ (s : Stated). Ok s.event) same),
    )

last_word : (before : Option (List ℕ)) (words : List (List ℕ)) (last : List ℕ) → last_or before (words ++ last ∷ []) ≡ Some last
last_word before [] last = refl
last_word before (word ∷ words) last = last_word (Some word) words last

site_of_last : (rest : List (List ℕ)) (site : List ℕ) → site_text (rest ++ (64 ∷ site) ∷ []) ≡ Some site
site_of_last rest site = ap behind_at (last_word None rest (64 ∷ site))

fields_of_last : (rest : List (List ℕ)) (site : List ℕ) → fields_of (rest ++ (64 ∷ site) ∷ []) ≡ rest
fields_of_last rest site =
    let before : length (rest ++ (64 ∷ site) ∷ []) - 1 ≡ length rest = simp length-append (omega arith) in
    rw (site_of_last rest site, before) (take-append_seam rest ((64 ∷ site) ∷ []))

fields_of_none : (rest : List (List ℕ)) → site_text rest ≡ None → fields_of rest ≡ rest
fields_of_none rest none = rw none refl

-- words without a site, and the same words with one
stated_site : (v : Version) (verb : List ℕ) (rest : List (List ℕ)) (event : Event) (site : List ℕ) → stated_by v verb rest ≡ Ok (at_site event None)
    → stated_by v verb (rest ++ (64 ∷ site) ∷ []) ≡ sited event (Some site)
stated_site v verb rest event site is =
    let formed = bind_ok (form_of v verb (fields_of rest)) _ _ is in
    let other = stated_in_other v formed.0 (fields_of rest) event (site_text rest) (Some site) formed.2 in
    let bare = fields_of_none rest other.0 in
    ap (λ (words : List (List ℕ)). form_of v verb words >>= λ form. stated_in v form words (site_text (rest ++ (64 ∷ site) ∷ []))) (fields_of_last rest site ∙ sym bare)
    ∙ ap (λ (text : Option (List ℕ)). form_of v verb (fields_of rest) >>= λ form. stated_in v form (fields_of rest) text) (site_of_last rest site)
    ∙ ap (λ read. read >>= λ form. stated_in v form (fields_of rest) (Some site)) formed.1
    ∙ other.1

-- what is stated is found
abbrev found : Result Stated FormReason → Result (Option Stated) FormReason
found read = read >>= λ stated. Ok (Some stated)

found_sited : (read : Result (Option (List ℕ)) FormReason) (event : Event) → found (read >>= λ site. Ok (at_site event site)) ≡ (read >>= λ site. Ok (Some (at_site event site)))
found_sited (Ok site) event = refl
found_sited (Err reason) event = refl

words_site : (v : Version) (words : List (List ℕ)) (event : Event) (site : List ℕ) → read_words v words ≡ Ok (Some (at_site event None))
    → read_words v (words ++ (64 ∷ site) ∷ []) ≡ stated_at event (Some site)
words_site v [] event site is = absurd (cc is)
words_site v (verb ∷ rest) event site is =
    ⊎_elim
    (λ (comment : begins_with 35 verb ≡ true). absurd (let wrong = rw comment at is in cc wrong))
    (λ (speaks : begins_with 35 verb ≡ false).
    let said = bind_ok (stated_by v verb rest) (λ stated. Ok (Some stated)) (Some (at_site event None)) (rw speaks at is) in
    let same : said.0 ≡ at_site event None = cc said.2 in
    rw speaks (ap found (stated_site v verb rest event site (said.1 ∙ ap Ok same)) ∙ found_sited (site_of (Some site)) event))
    (cases_Bool (begins_with 35 verb))

-- what a line states whose words state an event, with a site after them
pub reading_site : (v : Version) (line words site : List ℕ) (blank : ℕ) (event : Event) → is_blank blank ≡ true → list_all is_field site ≡ true → line ≡ words ++ blank ∷ 64 ∷ site
    → states v words (record { event = event; site = None }) → reading v line ≡ stated_at event (Some site)
reading_site v line words site blank event gap all is said =
    ap (reading v) is ∙ ap (read_words v) (texts_fields_last words blank 64 site gap all) ∙ words_site v (texts (fields words)) event site said

-- what a line states whose words state an event
pub reading_split : (v : Version) (line words : List ℕ) (site : Option (List ℕ)) (event : Event) → IsSplit line words site → states v words (record { event = event; site = None }) → reading v line ≡ stated_at event site
reading_split v line words None event split said = ap (reading v) (sym split) ∙ said
reading_split v line words (Some site) event split said = reading_site v line words site split.0 event split.1 split.2 split.3 said
