-- A word that is one rank, as a set of ranks.
use Rattle.std.proofs.Common.{◌≡◌, ℕ, ℤ, pos, negsuc, ◌++◌, ◌&&◌, true, false, List, [], ◌∷◌, length, take, drop, Option, Some, None, Ok, refl, sym, ap, ap₂, subst, ◌∙◌, ⊎_elim, arith, eqb}
use Rattle.std.specs.Prelude.{codes, nat_eq, nat_le, option_map}
use Rattle.std.specs.List.{list_all, starts_with}
use Rattle.std.specs.Char.{is_digit}
use Rattle.std.specs.Cmp.Lexicographic.{pointwise}
use Rattle.std.proofs.lemmas.Bool.{cases_Bool, eqb-true, false≢true, le-leb}
use Rattle.std.proofs.lemmas.List.{take-append-drop}
use Rattle.std.proofs.lemmas.Slice.Eq.{bytes_eq-Decides}
use Rattle.rma_base.proofs.NameLemmas.{and_left, and_right}
use Rattle.rma_base.specs.declared.version.Version.{Version}
use Rattle.rma_field.specs.Kinds.{last_rank, meaning, ranks}
use Rattle.rma_field.specs.Numbers.{is_numeral, magnitude, natural, number, number_within, numeral, signed}
use Rattle.rma_field.specs.Ranks.{is_comma_free, onto_first_piece, pieces}
use Rattle.rma_field.proofs.RankFieldLemmas.{pieces_other}

-- digits are no commas
digits_free : (base : ℕ) (text : List ℕ) → is_digit 44 base ≡ false → list_all (λ c. is_digit c base) text ≡ true → list_all is_comma_free text ≡ true
digits_free base [] none all = refl
digits_free base (c ∷ cs) none all =
    ⊎_elim
    (λ (comma : eqb c 44 ≡ true). absurd (false≢true (sym none ∙ ap (λ d. is_digit d base) (sym (eqb-true c 44 comma)) ∙ and_left (is_digit c base) _ all)))
    (λ (other : eqb c 44 ≡ false). rw other (digits_free base cs none (and_right (is_digit c base) _ all)))
    (cases_Bool (eqb c 44))

numeral_free : (base n : ℕ) (text : List ℕ) → is_digit 44 base ≡ false → numeral base text ≡ Some n → list_all is_comma_free text ≡ true
numeral_free base n text none is =
    ⊎_elim
    (λ (digits : is_numeral base text ≡ true). digits_free base text none (and_right _ _ digits))
    (λ (other : is_numeral base text ≡ false). let bad : None ≡ Some n = rw other at is in absurd (cc bad))
    (cases_Bool (is_numeral base text))

both_free : (front rest : List ℕ) → list_all is_comma_free front ≡ true → list_all is_comma_free rest ≡ true → list_all is_comma_free (front ++ rest) ≡ true
both_free [] rest ones others = others
both_free (c ∷ cs) rest ones others = ap₂ (λ a b. a && b) (and_left (is_comma_free c) _ ones) (both_free cs rest (and_right (is_comma_free c) _ ones) others)

front_free : (front text : List ℕ) → starts_with nat_eq text front ≡ true → list_all is_comma_free front ≡ true → list_all is_comma_free (drop (length front) text) ≡ true
    → list_all is_comma_free text ≡ true
front_free front text starts ones others =
    let is : front ≡ take (length front) text = (bytes_eq-Decides front (take (length front) text)).0 starts in
    subst (λ t. list_all is_comma_free t ≡ true) (take-append-drop (length front) text)
    (both_free (take (length front) text) (drop (length front) text) (subst (λ t. list_all is_comma_free t ≡ true) is ones) others)

-- nor is there one in a number
magnitude_free : (n : ℕ) (text : List ℕ) → magnitude text ≡ Some n → list_all is_comma_free text ≡ true
magnitude_free n text is =
    ⊎_elim
    (λ (hexadecimal : starts_with nat_eq text (codes "0x") ≡ true). front_free (codes "0x") text hexadecimal refl (numeral_free 16 n (drop 2 text) refl (rw hexadecimal at is)))
    (λ (other : starts_with nat_eq text (codes "0x") ≡ false). numeral_free 10 n text refl (rw other at is))
    (cases_Bool (starts_with nat_eq text (codes "0x")))

some_of : {A B : Type 0} (f : A → B) (read : Option A) (z : B) → option_map f read ≡ Some z → (n : A) × (read ≡ Some n)
some_of f None z is = absurd (cc is)
some_of f (Some n) z is = (n, refl)

number_free : (z : ℤ) (text : List ℕ) → number text ≡ Some z → list_all is_comma_free text ≡ true
number_free z text is =
    ⊎_elim
    (λ (minus : starts_with nat_eq text (codes "-") ≡ true).
    let read = some_of (signed true) (magnitude (drop 1 text)) z (rw minus at is) in
    front_free (codes "-") text minus refl (magnitude_free read.0 (drop 1 text) read.1))
    (λ (other : starts_with nat_eq text (codes "-") ≡ false). let read = some_of (signed false) (magnitude text) z (rw other at is) in magnitude_free read.0 text read.1)
    (cases_Bool (starts_with nat_eq text (codes "-")))

-- a text without commas is one piece
whole_piece : (text : List ℕ) → list_all is_comma_free text ≡ true → pieces text ≡ text ∷ []
whole_piece [] all = refl
whole_piece (c ∷ cs) all =
    ⊎_elim
    (λ (comma : eqb c 44 ≡ true). let bad = rw comma at all in absurd (cc bad))
    (λ (other : eqb c 44 ≡ false). pieces_other c cs other ∙ ap (onto_first_piece c) (whole_piece cs (and_right (is_comma_free c) _ all)))
    (cases_Bool (eqb c 44))

-- the number that a word from 0 on says
number_is : (last n : ℕ) (read : Option ℤ) → number_within 0 last read ≡ Ok n → (read ≡ Some (pos n)) × (nat_le n last ≡ true)
number_is last n None is = absurd (cc is)
number_is last n (Some (negsuc m)) is = absurd (cc is)
number_is last n (Some (pos m)) is =
    let low : nat_le 0 m ≡ true = le-leb 0 m (omega arith) in
    ⊎_elim
    (λ (within : nat_le m last ≡ true). let same : m ≡ n = cc (rw (low, within) at is) in (ap (λ k. Some (pos k)) same, subst (λ k. nat_le k last ≡ true) same within))
    (λ (above : nat_le m last ≡ false). absurd (cc (rw (low, above) at is)))
    (cases_Bool (nat_le m last))

-- a word that is a rank is the set of this rank alone
pub number_ranks : (v : Version) (n : ℕ) (word : List ℕ) → natural 0 (last_rank v) word ≡ Ok n → meaning v ranks word ≡ Ok (n ∷ [])
number_ranks v n word is =
    let it = number_is (last_rank v) n (number word) is in
    let whole = whole_piece word (number_free (pos n) word it.0) in
    ⊎_elim
    (λ (none : pointwise nat_eq word (codes "none") ≡ true).
    let bad : number (codes "none") ≡ Some (pos n) = subst (λ text. number text ≡ Some (pos n)) ((bytes_eq-Decides word (codes "none")).0 none) it.0 in
    absurd (cc bad))
    (λ (other : pointwise nat_eq word (codes "none") ≡ false). rw (other, whole, it.0, it.1) refl)
    (cases_Bool (pointwise nat_eq word (codes "none")))
