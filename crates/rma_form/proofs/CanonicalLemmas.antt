-- The canonical line of what a line states, read back.
use Rattle.std.proofs.Common.{◌≡◌, ℕ, ◌+◌, ◌-◌, true, false, List, [], ◌∷◌, ◌++◌, length, drop, Option, Some, None, Ok, refl, sym, ap, subst, ◌∙◌, ⊎_elim, arith, append_assoc, length-append}
use Rattle.std.specs.Prelude.{nat_lt}
use Rattle.std.specs.List.{list_all, join_with_byte}
use Rattle.std.proofs.lemmas.Bool.{cases_Bool, le-ltb}
use Rattle.std.proofs.Math.Seq.{take-append_seam, drop-append_seam}
use Rattle.std.proofs.lemmas.List.{append-nil}
use Rattle.std.proofs.lemmas.List.Folds.{list_all-append}
use Rattle.rma_base.proofs.NameLemmas.{and_left, and_right}
use Rattle.rma_base.specs.declared.version.Version.{Version}
use Rattle.rma_base.specs.Site.{is_site}
use Rattle.rma_field.specs.Sites.{site}
use Rattle.rma_field.specs.Steps.{◌>>=◌}
use Rattle.rma_field.proofs.JoinLemmas.{join_push}
use Rattle.rma_lex.specs.Field.{fields, texts}
use Rattle.rma_form.specs.declared.event.Event.{Event}
use Rattle.rma_form.specs.declared.event.Stated.{Stated}
use Rattle.rma_form.specs.declared.form.LineForm.{LineForm}
use Rattle.rma_form.specs.Canonical.{canonical, site_suffix, spelled}
use Rattle.rma_form.specs.Fields.{Values, all_written, made_of}
use Rattle.rma_form.specs.Forms.{form_at, form_of, event_in, event_of, is_in, kind_words, version_in}
use Rattle.rma_form.specs.Lines.{begins_with, behind_at, counted, fields_of, last_or, read_words, reading, site_of, site_text, stated_by, stated_in, states}
use Rattle.rma_form.specs.Tails.{TailValue, tail_counted, tail_of, tail_words}
use Rattle.rma_form.proofs.HeadLemmas.{form_of_in, head_tells, kind_of, narrow_kinds, no_comment, plain_head, verb_of, version_at, version_counted, version_found, version_tail, version_written, written_event}
use Rattle.rma_form.proofs.KindLemmas.{AllGood, bind_ok, length_spells, made_from, made_of_spells, plain_spells}
use Rattle.rma_form.proofs.LineLemmas.{counted_behind, counted_enough}
use Rattle.rma_form.proofs.PlainLemmas.{is_plain, no_site, unbroken_site, unbroken_words}
use Rattle.rma_form.proofs.TailLemmas.{IsGoodTail, plain_tail, tail_counted_spell, tail_good, tail_spell}
use Rattle.rma_form.proofs.WordLemmas.{is_unbroken, texts_fields_join}

-- a good site, or none
abbrev pub IsGoodSite : Option (List ℕ) → Type 0
IsGoodSite None = Unit {0}
IsGoodSite (Some site) = is_site site ≡ true

-- the word of the site
abbrev site_words : Option (List ℕ) → List (List ℕ)
site_words None = []
site_words (Some site) = (64 ∷ site) ∷ []

-- what some line of a log of this version states: good values of a form that it has, and a good site or none
pub record IsStatable (v : Version) (stated : Stated) : Type 0 where
  pub form : LineForm
  pub there : is_in v form ≡ true
  pub values : Values (form_at form).kinds
  pub good : AllGood (version_at v form values) (form_at form).kinds values
  pub tail : TailValue (form_at form).tail
  pub good_tail : IsGoodTail (version_at v form values) (form_at form).tail tail
  pub is : made_from (form_at form).kinds (form_at form).event values tail ≡ stated.event
  pub site : IsGoodSite stated.site

site_of_good : (text found : Option (List ℕ)) → site_of text ≡ Ok found → IsGoodSite found
site_of_good None found is = let same : None ≡ found = cc is in subst IsGoodSite same tt
site_of_good (Some text) found is =
    ⊎_elim
    (λ (good : is_site text ≡ true). let same : Some text ≡ found = let it = rw good at is in cc it in subst IsGoodSite same good)
    (λ (bad : is_site text ≡ false). absurd (let wrong = rw bad at is in cc wrong))
    (cases_Bool (is_site text))

event_statable : (v : Version) (form : LineForm) (texts : List (List ℕ)) (event : Event) (site : Option (List ℕ)) → is_in v form ≡ true
    → tail_counted v (form_at form).tail (drop (length (form_at form).kinds) texts) ≡ Ok tt → event_of v form texts ≡ Ok event → IsGoodSite site
    → IsStatable v (record { event = event; site = site })
event_statable v form texts event site there counts is good_site =
    let w = version_in v form texts in
    let made = bind_ok (made_of w (form_at form).kinds (form_at form).event texts) _ event is in
    let behind = bind_ok (tail_of w (form_at form).tail (drop (length (form_at form).kinds) texts)) _ event made.2 in
    let found = version_found v form texts made.0 made.1 in
    let same : made.0 behind.0 ≡ event = cc behind.2 in
    record {
      form = form;
      there = there;
      values = found.0.values;
      good = subst (λ u. AllGood u (form_at form).kinds found.0.values) (sym found.1) found.0.good;
      tail = behind.0;
      good_tail = subst (λ u. IsGoodTail u (form_at form).tail behind.0) (sym found.1) (tail_good w form _ behind.0 (version_counted v form texts _ counts) behind.1);
      is = ap (λ make. make behind.0) found.0.is ∙ same;
      site = good_site;
    }

stated_by_statable : (v : Version) (verb : List ℕ) (rest : List (List ℕ)) (stated : Stated) → stated_by v verb rest ≡ Ok stated → IsStatable v stated
stated_by_statable v verb rest stated is =
    let formed = bind_ok (form_of v verb (fields_of rest)) _ stated is in
    let counts = bind_ok (counted v formed.0 (fields_of rest)) _ stated formed.2 in
    let sited = bind_ok (site_of (site_text rest)) _ stated counts.2 in
    let made = bind_ok (event_of v formed.0 (drop (kind_words formed.0) (fields_of rest))) _ stated sited.2 in
    let same : record { event = made.0; site = sited.0 } ≡ stated = cc made.2 in
    subst (IsStatable v) same
    (event_statable v formed.0 _ made.0 sited.0 (form_of_in v verb (fields_of rest) formed.0 formed.1) (counted_behind v formed.0 (fields_of rest) counts.1) made.1 (site_of_good (site_text rest) sited.0 sited.1))

read_words_statable : (v : Version) (words : List (List ℕ)) (stated : Stated) → read_words v words ≡ Ok (Some stated) → IsStatable v stated
read_words_statable v [] stated is = absurd (cc is)
read_words_statable v (verb ∷ rest) stated is =
    ⊎_elim
    (λ (comment : begins_with 35 verb ≡ true). absurd (let bad = rw comment at is in cc bad))
    (λ (speaks : begins_with 35 verb ≡ false).
    let found = bind_ok (stated_by v verb rest) (λ stated. Ok (Some stated)) (Some stated) (rw speaks at is) in
    let same : found.0 ≡ stated = cc found.2 in
    subst (IsStatable v) same (stated_by_statable v verb rest found.0 found.1))
    (cases_Bool (begins_with 35 verb))

no_site_last : (before : Option (List ℕ)) (words : List (List ℕ)) → behind_at before ≡ None → list_all is_plain words ≡ true → behind_at (last_or before words) ≡ None
no_site_last before [] none plain = none
no_site_last before (word ∷ words) none plain =
    no_site_last (Some word) words (rw (no_site word (and_left (is_plain word) _ plain)) refl) (and_right (is_plain word) _ plain)

pub last_word : (before : Option (List ℕ)) (words : List (List ℕ)) (last : List ℕ) → last_or before (words ++ last ∷ []) ≡ Some last
last_word before [] last = refl
last_word before (word ∷ words) last = last_word (Some word) words last

-- the site of plain words with a site behind them, and the words without it
site_text_words : (words : List (List ℕ)) (site : Option (List ℕ)) → list_all is_plain words ≡ true → site_text (words ++ site_words site) ≡ site
site_text_words words None plain = ap site_text (append-nil words) ∙ no_site_last None words refl plain
site_text_words words (Some site) plain = ap behind_at (last_word None words (64 ∷ site))

fields_of_words : (words : List (List ℕ)) (site : Option (List ℕ)) → list_all is_plain words ≡ true → fields_of (words ++ site_words site) ≡ words
fields_of_words words None plain = rw (site_text_words words None plain) (append-nil words)
fields_of_words words (Some site) plain =
    let before : length (words ++ (64 ∷ site) ∷ []) - 1 ≡ length words = simp length-append (omega arith) in
    rw (site_text_words words (Some site) plain, before) (take-append_seam words ((64 ∷ site) ∷ []))

unbroken_site_words : (site : Option (List ℕ)) → IsGoodSite site → list_all is_unbroken (site_words site) ≡ true
unbroken_site_words None good = refl
unbroken_site_words (Some site) good = rw (unbroken_site site good) refl

site_of_site : (text : Option (List ℕ)) → IsGoodSite text → site_of text ≡ Ok text
site_of_site None good = refl
site_of_site (Some site) good = rw good refl

joined_site : (verb : List ℕ) (words : List (List ℕ)) (site : Option (List ℕ))
    → join_with_byte 32 (verb ∷ words) ++ site_suffix site ≡ join_with_byte 32 (verb ∷ (words ++ site_words site))
joined_site verb words None = append-nil (join_with_byte 32 (verb ∷ words)) ∙ ap (λ them. join_with_byte 32 (verb ∷ them)) (sym (append-nil words))
joined_site verb words (Some site) = sym (join_push 32 verb words (64 ∷ site))

read_words_stated : (v : Version) (verb : List ℕ) (rest : List (List ℕ)) (stated : Stated) → begins_with 35 verb ≡ false → stated_by v verb rest ≡ Ok stated
    → read_words v (verb ∷ rest) ≡ Ok (Some stated)
read_words_stated v verb rest stated speaks is = rw (speaks, is) refl

not_less : (n m : ℕ) → nat_lt (n + m) n ≡ false
not_less n m = le-ltb (n + m) n (omega arith)

-- the words of a form with good values
module _ (v : Version) (form : LineForm) (there : is_in v form ≡ true) (values : Values (form_at form).kinds) (good : AllGood (version_at v form values) (form_at form).kinds values)
    (tail : TailValue (form_at form).tail) (good_tail : IsGoodTail (version_at v form values) (form_at form).tail tail) (site : Option (List ℕ)) (good_site : IsGoodSite site) where
  abbrev behind : List (List ℕ)
  behind = tail_words (form_at form).tail tail

  abbrev further : List (List ℕ)
  further = all_written (form_at form).kinds values ++ behind

  abbrev words : List (List ℕ)
  words = kind_of form ++ further

  abbrev what : Stated
  what = record { event = made_from (form_at form).kinds (form_at form).event values tail; site = site }

  abbrev w : Version
  w = version_at v form values

  plain_words : list_all is_plain words ≡ true
  plain_words =
      list_all-append is_plain (kind_of form) further
      ∙ rw (and_right (is_plain (verb_of form)) _ (plain_head form))
      (list_all-append is_plain (all_written (form_at form).kinds values) behind
      ∙ rw (plain_spells w (form_at form).kinds (narrow_kinds form) values good) (plain_tail w (form_at form).tail tail good_tail))

  plain_line : list_all is_plain (verb_of form ∷ words) ≡ true
  plain_line = rw (and_left (is_plain (verb_of form)) _ (plain_head form)) plain_words

  unbroken_line : list_all is_unbroken (verb_of form ∷ (words ++ site_words site)) ≡ true
  unbroken_line =
      list_all-append is_unbroken (verb_of form ∷ words) (site_words site) ∙ rw (unbroken_words (verb_of form ∷ words) plain_line) (unbroken_site_words site good_site)

  formed : form_of v (verb_of form) words ≡ Ok form
  formed = head_tells v form there further

  least : kind_words form + length (form_at form).kinds ≡ length (kind_of form ++ all_written (form_at form).kinds values)
  least = sym (length-append (kind_of form) (all_written (form_at form).kinds values) ∙ ap (λ n. kind_words form + n) (length_spells (form_at form).kinds values))

  counts : counted v form words ≡ Ok tt
  counts =
      let n = kind_words form + length (form_at form).kinds in
      let parts : words ≡ (kind_of form ++ all_written (form_at form).kinds values) ++ behind = sym (append_assoc (kind_of form) (all_written (form_at form).kinds values) behind) in
      let long : length words ≡ n + length behind = ap length parts ∙ length-append (kind_of form ++ all_written (form_at form).kinds values) behind ∙ ap (λ m. m + length behind) (sym least) in
      let left : drop n words ≡ behind = ap (drop n) parts ∙ ap (λ m. drop m ((kind_of form ++ all_written (form_at form).kinds values) ++ behind)) least ∙ drop-append_seam (kind_of form ++ all_written (form_at form).kinds values) behind in
      counted_enough v form words n refl (ap (λ m. nat_lt m n) long ∙ not_less n (length behind))
      ∙ rw left (tail_counted_spell v (form_at form).tail tail (version_tail v form values tail good_tail))

  event : event_of v form further ≡ Ok (made_from (form_at form).kinds (form_at form).event values tail)
  event =
      ap (λ u. event_in u form further) (version_written v form values behind)
      ∙ ap (λ read. read >>= λ make. tail_of w (form_at form).tail (drop (length (form_at form).kinds) further) >>= λ value. Ok (make value))
      (made_of_spells w (form_at form).kinds (form_at form).event (narrow_kinds form) values good behind)
      ∙ ap (λ rest. tail_of w (form_at form).tail rest >>= λ value. Ok (made_from (form_at form).kinds (form_at form).event values value))
      (ap (λ n. drop n further) (sym (length_spells (form_at form).kinds values)) ∙ drop-append_seam (all_written (form_at form).kinds values) behind)
      ∙ ap (λ read. read >>= λ value. Ok (made_from (form_at form).kinds (form_at form).event values value)) (tail_spell w (form_at form).tail tail good_tail)

  stated : stated_by v (verb_of form) (words ++ site_words site) ≡ Ok what
  stated =
      ap (λ them. form_of v (verb_of form) them >>= λ it. stated_in v it them (site_text (words ++ site_words site))) (fields_of_words words site plain_words)
      ∙ ap (λ read. read >>= λ it. stated_in v it words (site_text (words ++ site_words site))) formed
      ∙ ap (λ read. read >>= λ _. site_of (site_text (words ++ site_words site)) >>= λ at. event_of v form (drop (kind_words form) words) >>= λ event. Ok (record { event = event; site = at })) counts
      ∙ ap (λ read. read >>= λ at. event_of v form (drop (kind_words form) words) >>= λ event. Ok (record { event = event; site = at }))
      (ap site_of (site_text_words words site plain_words) ∙ site_of_site site good_site)
      ∙ ap (λ them. event_of v form them >>= λ event. Ok (record { event = event; site = site })) (drop-append_seam (kind_of form) further)
      ∙ ap (λ read. read >>= λ event. Ok (record { event = event; site = site })) event

  read : reading v (join_with_byte 32 (verb_of form ∷ words) ++ site_suffix site) ≡ Ok (Some what)
  read =
      ap (reading v) (joined_site (verb_of form) words site)
      ∙ ap (read_words v) (texts_fields_join (verb_of form ∷ (words ++ site_words site)) unbroken_line)
      ∙ read_words_stated v (verb_of form) (words ++ site_words site) what (no_comment form) stated

  canonical_what : states v (canonical what) what
  unfolding spelled
  canonical_what = ap (λ them. reading v (join_with_byte 32 them ++ site_suffix site)) (written_event form values tail) ∙ read

canonical_statable : (v : Version) (stated : Stated) → IsStatable v stated → states v (canonical stated) stated
canonical_statable v stated can =
    subst (λ event. states v (canonical (record { event = event; site = stated.site })) (record { event = event; site = stated.site })) can.is
    (canonical_what v can.form can.there can.values can.good can.tail can.good_tail stated.site can.site)

-- what a line states, its canonical line states
pub canonical_states : (v : Version) (text : List ℕ) (stated : Stated) → states v text stated → states v (canonical stated) stated
canonical_states v text stated is = canonical_statable v stated (read_words_statable v (texts (fields text)) stated is)

-- no two values that lines state have one canonical line
pub canonical_apart : (v : Version) (left right : List ℕ) (one other : Stated) → states v left one → states v right other → canonical one ≡ canonical other → one ≡ other
canonical_apart v left right one other first second same =
    let both = sym (canonical_states v left one first) ∙ ap (reading v) same ∙ canonical_states v right other second in cc both
