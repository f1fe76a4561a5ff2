-- The words of texts that are put together.
use Rattle.std.proofs.Common.{◌≡◌, ℕ, ◌+◌, ◌<◌, eqb, true, false, List, [], ◌∷◌, ◌++◌, length, refl, sym, ap, subst, ◌∙◌, ⊎_elim, if◌then◌else◌, arith}
use Rattle.std.specs.Prelude.{◌&&◌}
use Rattle.std.proofs.lemmas.Bool.{cases_Bool, eqb-true, false≢true}
use Rattle.std.proofs.lemmas.List.{append-nil, append_assoc}
use Rattle.std.specs.List.{list_all, onto_first}
use Rattle.rma_base.proofs.NameLemmas.{and_left, and_right}
use Rattle.rma_base.specs.Name.{begins_name, continues_name, is_name}
use Rattle.rma_lex.specs.Field.{Field, is_blank, is_field, begins_field, onto_first_field, fields_from, fields, texts}
use Rattle.rma_known.specs.inside.Templates.{EndsBlank, words_in}

-- the longest runs of bytes that are no blanks
abbrev pub runs : List ℕ → List (List ℕ)
runs [] = []
runs (byte ∷ bytes) = if is_blank byte then runs bytes else (if begins_field bytes then onto_first byte (runs bytes) else (byte ∷ []) ∷ runs bytes)

texts_onto_first_field : (place byte : ℕ) (them : List Field) → texts (onto_first_field place byte them) ≡ onto_first byte (texts them)
texts_onto_first_field place byte [] = refl
texts_onto_first_field place byte (field ∷ rest) = refl

pub texts_fields_from : (place : ℕ) (bytes : List ℕ) → texts (fields_from place bytes) ≡ runs bytes
texts_fields_from place [] = refl
texts_fields_from place (byte ∷ bytes) =
    let later = texts_fields_from (place + 1) bytes in
    ⊎_elim
    (λ (blank : is_blank byte ≡ true). rw blank later)
    (λ (here : is_blank byte ≡ false). ⊎_elim
    (λ (next : begins_field bytes ≡ true). rw (here, next) (texts_onto_first_field place byte (fields_from (place + 1) bytes) ∙ ap (onto_first byte) later))
    (λ (next : begins_field bytes ≡ false). rw (here, next) (ap (λ them. (byte ∷ []) ∷ them) later))
    (cases_Bool (begins_field bytes)))
    (cases_Bool (is_blank byte))

no_blank : (byte : ℕ) → is_field byte ≡ true → is_blank byte ≡ false
no_blank byte field = ⊎_elim (λ (blank : is_blank byte ≡ true). absurd (false≢true (rw blank at field))) (λ (here : is_blank byte ≡ false). here) (cases_Bool (is_blank byte))

runs_joined : (byte : ℕ) (bytes : List ℕ) → is_field byte ≡ true → begins_field bytes ≡ true → runs (byte ∷ bytes) ≡ onto_first byte (runs bytes)
runs_joined byte bytes here next = let other = no_blank byte here in rw (other, next)

runs_alone : (byte : ℕ) (bytes : List ℕ) → is_field byte ≡ true → begins_field bytes ≡ false → runs (byte ∷ bytes) ≡ (byte ∷ []) ∷ runs bytes
runs_alone byte bytes here next = let other = no_blank byte here in rw (other, next)

pub runs_word : (byte : ℕ) (word : List ℕ) → list_all is_field (byte ∷ word) ≡ true → runs (byte ∷ word) ≡ (byte ∷ word) ∷ []
runs_word byte [] all = runs_alone byte [] (and_left (is_field byte) true all) refl
runs_word byte (next ∷ word) all =
    let later = and_right (is_field byte) _ all in
    runs_joined byte (next ∷ word) (and_left (is_field byte) _ all) (and_left (is_field next) _ later) ∙ ap (onto_first byte) (runs_word next word later)

onto_some : (byte : ℕ) (them : List (List ℕ)) → (word : List ℕ) × (rest : List (List ℕ)) × (onto_first byte them ≡ word ∷ rest)
onto_some byte [] = (byte ∷ [], [], refl)
onto_some byte (word ∷ rest) = (byte ∷ word, rest, refl)

-- a text that begins with a field has one
runs_some : (bytes : List ℕ) → begins_field bytes ≡ true → (word : List ℕ) × (rest : List (List ℕ)) × (runs bytes ≡ word ∷ rest)
runs_some [] begins = absurd (false≢true begins)
runs_some (byte ∷ bytes) begins =
    ⊎_elim
    (λ (next : begins_field bytes ≡ true). let it = onto_some byte (runs bytes) in (it.0, it.1, runs_joined byte bytes begins next ∙ it.2))
    (λ (alone : begins_field bytes ≡ false). (byte ∷ [], runs bytes, runs_alone byte bytes begins alone))
    (cases_Bool (begins_field bytes))

onto_append : (byte : ℕ) (them more : List (List ℕ)) → (word : List ℕ) × (rest : List (List ℕ)) × (them ≡ word ∷ rest) → onto_first byte (them ++ more) ≡ onto_first byte them ++ more
onto_append byte [] more some = refl_none some.2
  where
    refl_none : {rest : List (List ℕ)} {word : List ℕ} → [] ≡ word ∷ rest → onto_first byte ([] ++ more) ≡ onto_first byte [] ++ more
    refl_none none = cc
onto_append byte (word ∷ rest) more some = refl

begins_more : (bytes : List ℕ) (blank : ℕ) (last : List ℕ) → is_blank blank ≡ true → begins_field (bytes ++ blank ∷ last) ≡ begins_field bytes
begins_more [] blank last is = rw is refl
begins_more (byte ∷ bytes) blank last is = refl

-- the fields of two texts with a blank between them are those of both
pub runs_apart : (bytes : List ℕ) (blank : ℕ) (last : List ℕ) → is_blank blank ≡ true → runs (bytes ++ blank ∷ last) ≡ runs bytes ++ runs last
runs_apart [] blank last is = rw is refl
runs_apart (byte ∷ bytes) blank last is =
    let later = runs_apart bytes blank last is in
    ⊎_elim
    (λ (gap : is_blank byte ≡ true). rw gap later)
    (λ (here : is_blank byte ≡ false). ⊎_elim
    (λ (next : begins_field bytes ≡ true).
    rw (here, begins_more bytes blank last is, next, later) (onto_append byte (runs bytes) (runs last) (runs_some bytes next)))
    (λ (alone : begins_field bytes ≡ false). rw (here, begins_more bytes blank last is, alone, later) refl)
    (cases_Bool (begins_field bytes)))
    (cases_Bool (is_blank byte))

-- a field at the end of a text, after a blank
pub texts_fields_last : (bytes : List ℕ) (blank byte : ℕ) (word : List ℕ) → is_blank blank ≡ true → list_all is_field (byte ∷ word) ≡ true
    → texts (fields (bytes ++ blank ∷ byte ∷ word)) ≡ texts (fields bytes) ++ (byte ∷ word) ∷ []
texts_fields_last bytes blank byte word is all =
    texts_fields_from 0 (bytes ++ blank ∷ byte ∷ word) ∙ runs_apart bytes blank (byte ∷ word) is
    ∙ ap (λ them. runs bytes ++ them) (runs_word byte word all) ∙ ap (λ them. them ++ (byte ∷ word) ∷ []) (sym (texts_fields_from 0 bytes))

-- ---- blanks in a text

blank_of : (byte : ℕ) → is_field byte ≡ false → is_blank byte ≡ true
blank_of byte apart = ⊎_elim (λ (blank : is_blank byte ≡ true). blank) (λ (other : is_blank byte ≡ false). absurd (false≢true (sym (rw other at apart)))) (cases_Bool (is_blank byte))

-- blanks before a text add no word
pub runs_blanks : (blanks rest : List ℕ) → list_all is_blank blanks ≡ true → runs (blanks ++ rest) ≡ runs rest
runs_blanks [] rest all = refl
runs_blanks (byte ∷ blanks) rest all =
    let here = and_left (is_blank byte) _ all in
    rw here (runs_blanks blanks rest (and_right (is_blank byte) _ all))

runs_none : (blanks : List ℕ) → list_all is_blank blanks ≡ true → runs blanks ≡ []
runs_none blanks all = ap runs (sym (append-nil blanks)) ∙ runs_blanks blanks [] all

-- nor do blanks behind it
pub runs_then_blanks : (front blanks : List ℕ) → list_all is_blank blanks ≡ true → runs (front ++ blanks) ≡ runs front
runs_then_blanks front [] all = ap runs (append-nil front)
runs_then_blanks front (byte ∷ blanks) all =
    runs_apart front byte blanks (and_left (is_blank byte) _ all) ∙ ap (λ them. runs front ++ them) (runs_none blanks (and_right (is_blank byte) _ all)) ∙ append-nil (runs front)

-- the words of two texts, the first of which ends with a blank, are those of both
pub runs_behind : (front rest : List ℕ) → EndsBlank front → runs (front ++ rest) ≡ runs front ++ runs rest
runs_behind front rest ends =
    let alone : runs front ≡ runs ends.front = ap runs ends.parted ∙ runs_apart ends.front ends.blank [] ends.is ∙ append-nil (runs ends.front) in
    ap (λ them. runs (them ++ rest)) ends.parted ∙ ap runs (append_assoc ends.front (ends.blank ∷ []) rest) ∙ runs_apart ends.front ends.blank rest ends.is
    ∙ ap (λ them. them ++ runs rest) (sym alone)

-- so are they where the second begins with no field
pub runs_before : (front rest : List ℕ) → begins_field rest ≡ false → runs (front ++ rest) ≡ runs front ++ runs rest
runs_before front [] apart = ap runs (append-nil front) ∙ sym (append-nil (runs front))
runs_before front (byte ∷ rest) apart =
    let blank = blank_of byte apart in
    let same : runs (byte ∷ rest) ≡ runs rest = rw blank refl in
    runs_apart front byte rest blank ∙ ap (λ them. runs front ++ them) (sym same)

-- a text ends with a blank, if blanks are its end
pub ends_blank : (front blanks : List ℕ) → list_all is_blank blanks ≡ true → 0 < length blanks → EndsBlank (front ++ blanks)
ends_blank front [] all some = absurd (omega (arith, some))
ends_blank front (byte ∷ []) all some = record { front = front; blank = byte; is = and_left (is_blank byte) true all; parted = refl }
ends_blank front (byte ∷ next ∷ blanks) all some =
    subst EndsBlank (append_assoc front (byte ∷ []) (next ∷ blanks)) (ends_blank (front ++ byte ∷ []) (next ∷ blanks) (and_right (is_blank byte) _ all) (omega arith))

-- blanks stand before a word, if no field stands at the front
pub some_blanks : (blanks word rest : List ℕ) → begins_field (blanks ++ (word ++ rest)) ≡ false → list_all is_field word ≡ true → 0 < length word → 0 < length blanks
some_blanks [] [] rest apart all some = absurd (omega (arith, some))
some_blanks [] (byte ∷ word) rest apart all some = absurd (false≢true (sym apart ∙ and_left (is_field byte) _ all))
some_blanks (byte ∷ blanks) word rest apart all some = omega arith

-- what a text begins with is in its front, if that ends with a blank
pub begins_front : (front rest : List ℕ) → EndsBlank front → begins_field (front ++ rest) ≡ begins_field front
begins_front [] rest ends = absurd (nothing_ends ends.front ends.blank ends.parted)
  where
    nothing_ends : (front : List ℕ) (blank : ℕ) → [] ≡ front ++ blank ∷ [] → ⊥
    nothing_ends [] blank is = cc is
    nothing_ends (byte ∷ front) blank is = cc is
begins_front (byte ∷ front) rest ends = refl

-- the words of a text in which one stands between blanks
pub words_round : (front word rest : List ℕ) → EndsBlank front → words_in word ≡ word ∷ [] → begins_field rest ≡ false
    → words_in (front ++ (word ++ rest)) ≡ words_in front ++ word ∷ words_in rest
words_round front word rest ends is apart =
    texts_fields_from 0 (front ++ (word ++ rest)) ∙ runs_behind front (word ++ rest) ends
    ∙ ap (λ them. runs front ++ them) (runs_before word rest apart ∙ ap (λ them. them ++ runs rest) (sym (texts_fields_from 0 word) ∙ is))
    ∙ ap (λ them. them ++ word ∷ runs rest) (sym (texts_fields_from 0 front)) ∙ ap (λ them. words_in front ++ word ∷ them) (sym (texts_fields_from 0 rest))

-- ---- names

continues_field : (byte : ℕ) → continues_name byte ≡ true → is_field byte ≡ true
continues_field byte here =
    ⊎_elim
    (λ (space : eqb byte 32 ≡ true). absurd (let wrong = subst (λ b. continues_name b ≡ true) (eqb-true byte 32 space) here in cc wrong))
    (λ (no : eqb byte 32 ≡ false). ⊎_elim
    (λ (tab : eqb byte 9 ≡ true). absurd (let wrong = subst (λ b. continues_name b ≡ true) (eqb-true byte 9 tab) here in cc wrong))
    (λ (none : eqb byte 9 ≡ false). rw (no, none) refl)
    (cases_Bool (eqb byte 9)))
    (cases_Bool (eqb byte 32))

continue_fields : (bytes : List ℕ) → list_all continues_name bytes ≡ true → list_all is_field bytes ≡ true
continue_fields [] all = refl
continue_fields (byte ∷ bytes) all =
    let here = continues_field byte (and_left (continues_name byte) _ all) in
    let rest = continue_fields bytes (and_right (continues_name byte) _ all) in
    rw (here, rest) refl

-- a name has no blank
pub name_is_word : (text : List ℕ) → is_name text ≡ true → list_all is_field text ≡ true
name_is_word [] good = refl
name_is_word (byte ∷ bytes) good =
    let both = and_left (begins_name byte && list_all continues_name bytes) _ good in
    let first = and_left (begins_name byte) _ both in
    let here = continues_field byte (rw first refl) in
    let rest = continue_fields bytes (and_right (begins_name byte) _ both) in
    rw (here, rest) refl
