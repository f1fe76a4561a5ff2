-- The words that tell the form of a line, and the version in which it is read.
use Rattle.std.proofs.Common.{◌≡◌, ℕ, Bool, true, false, List, [], ◌∷◌, ◌++◌, Option, Some, None, Ok, refl, sym, ap, ⊎_elim, ◌∙◌}
use Rattle.std.specs.Prelude.{option_to_list, find, is_none, codes, option_map, MatchOption}
use Rattle.std.specs.List.{list_all}
use Rattle.std.proofs.lemmas.Bool.{cases_Bool, false≢true}
use Rattle.rma_base.proofs.NameLemmas.{and_left, and_right}
use Rattle.rma_base.specs.declared.version.Version.{Version}
use Rattle.rma_base.specs.declared.version.Version.TheVariants.{One, Two}
use Rattle.rma_base.specs.Version.{version_word}
use Rattle.rma_field.specs.Kinds.{is_word, known, version, version_of}
use Rattle.rma_form.specs.Fields.{Values, all_written, made_of}
use Rattle.rma_form.specs.Forms.{filled, form_at, form_of, form_of_kind, form_of_verb, forms, has_verb, has_words, is_in, named_version, version_in, words_of}
use Rattle.rma_form.specs.Lines.{begins_with}
use Rattle.rma_form.specs.Tails.{TailValue, tail_counted, tail_words}
use Rattle.rma_form.specs.declared.event.Event.{Event}
use Rattle.rma_form.specs.declared.form.LineForm.{LineForm}
use Rattle.rma_form.specs.declared.form.LineForm.TheVariants as form
use Rattle.std.proofs.Common.{Bor}
use Rattle.std.proofs.lemmas.Slice.Eq.{bytes_eq-Decides}
use Rattle.rma_form.specs.inside.Kind.{IsKind}
use Rattle.rma_form.proofs.KindLemmas.{Makes, first_value, is_narrow, made_from, made_of_good}
use Rattle.rma_form.proofs.PlainLemmas.{is_plain}
use Rattle.rma_form.proofs.TailLemmas.{IsGoodTail}

-- the verb of a form, and the word of its kind
abbrev pub verb_of : LineForm → List ℕ
verb_of form = (form_at form).verb

abbrev pub kind_of : LineForm → List (List ℕ)
kind_of form = option_to_list (form_at form).kind_word

pub narrow_kinds : (form : LineForm) → list_all is_narrow (form_at form).kinds ≡ true
narrow_kinds form.Header = refl
narrow_kinds _ = refl

pub plain_head : (form : LineForm) → list_all is_plain (verb_of form ∷ kind_of form) ≡ true
plain_head form.Header = refl
plain_head _ = refl

pub no_comment : (form : LineForm) → begins_with 35 (verb_of form) ≡ false
no_comment form.Header = refl
no_comment _ = refl

-- the verb and the word of its kind tell the form, where logs of the version have it
pub head_tells : (v : Version) (form : LineForm) → is_in v form ≡ true → (fields : List (List ℕ)) → form_of v (verb_of form) (kind_of form ++ fields) ≡ Ok form
head_tells One form.Dynamic there fields = absurd (false≢true there)
head_tells One form.Attach there fields = absurd (false≢true there)
head_tells One form.Detach there fields = absurd (false≢true there)
head_tells One form.Bcast there fields = absurd (false≢true there)
head_tells One form.Scatter there fields = absurd (false≢true there)
head_tells One form.Gather there fields = absurd (false≢true there)
head_tells One form.Reduce there fields = absurd (false≢true there)
head_tells One form.Allreduce there fields = absurd (false≢true there)
head_tells One form.Allgather there fields = absurd (false≢true there)
head_tells One form.Alltoall there fields = absurd (false≢true there)
head_tells One form.Poll there fields = absurd (false≢true there)
head_tells Two form.Header there fields = refl
head_tells _ _ there fields = refl

-- an event that is made of values is written by these values
pub written_event : (form : LineForm) (values : Values (form_at form).kinds) (tail : TailValue (form_at form).tail)
    → words_of (filled (made_from (form_at form).kinds (form_at form).event values tail))
    ≡ verb_of form ∷ (kind_of form ++ (all_written (form_at form).kinds values ++ tail_words (form_at form).tail tail))
written_event form.Header values tail = refl
written_event _ values tail = refl

-- the version in which these values of a form are good
abbrev pub version_at : Version → (form : LineForm) → Values (form_at form).kinds → Version
version_at v form.Header values = values.0
version_at v _ values = v

named_back : (v named : Version) → named_version v (version_word named) ≡ named
named_back v One = refl
named_back v Two = refl

pub version_written : (v : Version) (form : LineForm) (values : Values (form_at form).kinds) (behind : List (List ℕ))
    → version_in v form (all_written (form_at form).kinds values ++ behind) ≡ version_at v form values
version_written v form.Header values behind = named_back v values.0
version_written v _ values behind = refl

pub named_is : (v : Version) (word : List ℕ) (named : Version) → version_of word ≡ Ok named → named_version v word ≡ named
named_is v word named is =
    ⊎_elim
    (λ (one : is_word (codes "1") word ≡ true). rw one (let it = rw one at is in cc it))
    (λ (other : is_word (codes "1") word ≡ false). ⊎_elim
    (λ (two : is_word (codes "2") word ≡ true). rw (other, two) (let it = rw (other, two) at is in cc it))
    (λ (none : is_word (codes "2") word ≡ false). absurd (let bad = rw (other, none) at is in cc bad))
    (cases_Bool (is_word (codes "2") word)))
    (cases_Bool (is_word (codes "1") word))

-- what is made of the fields of a form is made of values that are good in the version in which they are read
pub version_found : (v : Version) (form : LineForm) (texts : List (List ℕ)) (make : TailValue (form_at form).tail → Event)
    → made_of (version_in v form texts) (form_at form).kinds (form_at form).event texts ≡ Ok make
    → (makes : Makes (version_in v form texts) (form_at form).kinds (form_at form).event make) × (version_at v form makes.values ≡ version_in v form texts)
version_found v form.Header [] make is = absurd (cc is)
version_found v form.Header (word ∷ texts) make is =
    let found = first_value (named_version v word) version _ (form_at form.Header).event word texts make is in
    (found.0, sym (named_is v word found.0.values.0 found.1))
version_found v _ texts make is = (made_of_good v _ _ texts make is, refl)

found_holds : (p : LineForm → Bool) (them : List LineForm) (form : LineForm) → find p them ≡ Some form → p form ≡ true
found_holds p [] form is = absurd (cc is)
found_holds p (first ∷ them) form is =
    ⊎_elim
    (λ (here : p first ≡ true). let same : first ≡ form = let it = rw here at is in cc it in rw (← same) here)
    (λ (other : p first ≡ false). found_holds p them form (rw other at is))
    (cases_Bool (p first))

known_some : (found : Option LineForm) (form : LineForm) → known found ≡ Ok form → found ≡ Some form
known_some None form is = absurd (cc is)
known_some (Some it) form is = let same : it ≡ form = cc is in ap Some same

form_of_kind_in : (v : Version) (verb : List ℕ) (fields : List (List ℕ)) (form : LineForm) → form_of_kind v verb fields ≡ Ok form → is_in v form ≡ true
form_of_kind_in v verb [] form is = absurd (cc is)
form_of_kind_in v verb (kind ∷ rest) form is =
    let holds = found_holds (has_words v verb kind) forms form (known_some (find (has_words v verb kind) forms) form is) in
    and_right (is_word (verb_of form) verb) _ (and_left (has_verb v verb form) _ holds)

form_of_verb_in : (v : Version) (verb : List ℕ) (found : Option LineForm) (fields : List (List ℕ)) (form : LineForm) → find (has_verb v verb) forms ≡ found
    → form_of_verb v verb found fields ≡ Ok form → is_in v form ≡ true
form_of_verb_in v verb None fields form found is = absurd (cc is)
form_of_verb_in v verb (Some first) fields form found is =
    ⊎_elim
    (λ (plain : is_none (form_at first).kind_word ≡ true).
    let same : first ≡ form = let it = rw plain at is in cc it in
    and_right (is_word (verb_of form) verb) _ (rw (← same) (found_holds (has_verb v verb) forms first found)))
    (λ (kinds : is_none (form_at first).kind_word ≡ false). form_of_kind_in v verb fields form (rw kinds at is))
    (cases_Bool (is_none (form_at first).kind_word))

-- logs of the version have the forms of their lines
pub form_of_in : (v : Version) (verb : List ℕ) (fields : List (List ℕ)) (form : LineForm) → form_of v verb fields ≡ Ok form → is_in v form ≡ true
form_of_in v verb fields form is = form_of_verb_in v verb (find (has_verb v verb) forms) fields form refl is

-- a form with something behind its fields is read in the version of the log
pub version_tail : (v : Version) (form : LineForm) (values : Values (form_at form).kinds) (tail : TailValue (form_at form).tail)
    → IsGoodTail (version_at v form values) (form_at form).tail tail → IsGoodTail v (form_at form).tail tail
version_tail v form.Header values tail good = tt
version_tail v _ values tail good = good

-- a form whose words behind its fields were counted in the version of the log is read in it
pub version_counted : (v : Version) (form : LineForm) (texts words : List (List ℕ)) → tail_counted v (form_at form).tail words ≡ Ok tt
    → tail_counted (version_in v form texts) (form_at form).tail words ≡ Ok tt
version_counted v form.Header texts words counts = counts
version_counted v _ texts words counts = counts

seen_kind : (kind : Option (Bor (List ℕ))) (fields : List (List ℕ)) (it : List ℕ) → MatchOption kind (fields ≡ []) (λ word. (rest : List (List ℕ)) × (fields ≡ word.now ∷ rest))
    → option_map (λ text. text.now) kind ≡ Some it → (rest : List (List ℕ)) × (fields ≡ it ∷ rest)
seen_kind None fields it is same = absurd (cc same)
seen_kind (Some word) fields it is same = let equal : word.now ≡ it = cc same in (is.0, is.1 ∙ ap (λ first. first ∷ is.0) equal)

kind_rest : (word : Option (List ℕ)) (kind : Option (Bor (List ℕ))) (fields : List (List ℕ)) → IsKind word (option_map (λ text. text.now) kind)
    → MatchOption kind (fields ≡ []) (λ word. (rest : List (List ℕ)) × (fields ≡ word.now ∷ rest)) → (rest : List (List ℕ)) × (fields ≡ option_to_list word ++ rest)
kind_rest None kind fields is words = (fields, refl)
kind_rest (Some word) kind fields is words = seen_kind kind fields word words is

-- a form that was seen is that of the line
pub seen_form : (v : Version) (verb : List ℕ) (fields : List (List ℕ)) (form : LineForm) (kind : Option (Bor (List ℕ))) → has_verb v verb form ≡ true
    → IsKind (form_at form).kind_word (option_map (λ text. text.now) kind) → MatchOption kind (fields ≡ []) (λ word. (rest : List (List ℕ)) × (fields ≡ word.now ∷ rest))
    → form_of v verb fields ≡ Ok form
seen_form v verb fields form kind has is words =
    let same : verb ≡ verb_of form = (bytes_eq-Decides verb (verb_of form)).0 (and_left (is_word (verb_of form) verb) _ has) in
    let there : is_in v form ≡ true = and_right (is_word (verb_of form) verb) _ has in
    let front = kind_rest (form_at form).kind_word kind fields is words in
    rw (same, front.1) (head_tells v form there front.0)
