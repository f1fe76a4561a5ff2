-- The explanation that words ask for.
use Rattle.std.proofs.Common.{◌≡◌, ◌≤◌, ℕ, Bool, true, false, cond, List, [], ◌∷◌, codes, Some, None, Option, option_map, nat_le, refl, subst}
use Rattle.std.specs.Option.{option_and_then}
use Rattle.std.proofs.lemmas.Bool.{le-leb, leb-true}
use Rattle.std.proofs.lemmas.Option.{none-some}
use Rattle.rma_command.specs.Words.{Explain, Explains, IsExplain, number_of}
use Rattle.rma_command.specs.inside.Words.{names_from, ordinal, explain_behind, command_of}
use Rattle.rma_command.proofs.NameLemmas.{names_are_read, read_are_names}

abbrev Words : Type 0
Words = List (List ℕ)

-- a number that is read as one from 1
ordinal_read : (found : Option ℕ) (number : ℕ) → ordinal found ≡ Some number → (found ≡ Some number) × (1 ≤ number)
ordinal_read None number h = absurd (none-some number h)
ordinal_read (Some found) number h = by (nat_le 1 found) refl h
  where
    by : (b : Bool) → nat_le 1 found ≡ b → cond b (Some found) None ≡ Some number → (Some found ≡ Some number) × (1 ≤ number)
    by false fails none = absurd (none-some number none)
    by true holds some = let same : found ≡ number = cc in (some, subst (λ n. 1 ≤ n) same (leb-true 1 found holds))

pub explain_is_read : (words : Words) (explain : Explain) → IsExplain words explain → command_of words ≡ Some (Explains explain)
explain_is_read words explain h =
    let named = (names_are_read h.rest explain.names h.names_are).names_are in rw (h.words_are, h.number_is, le-leb 1 explain.number h.from_one, named) refl

pub explain_read : (words : Words) (explain : Explain) → explain_behind words ≡ Some explain → IsExplain (codes "explain" ∷ words) explain
explain_read [] explain h = absurd (none-some explain h)
explain_read (word ∷ rest) explain h = at (ordinal (number_of word)) (names_from rest) refl refl h
  where
    at : (found : Option ℕ) (named : Option Words) → ordinal (number_of word) ≡ found → names_from rest ≡ named
        → option_and_then (λ number. option_map (λ names. record { number = number; names = names }) named) found ≡ Some explain → IsExplain (codes "explain" ∷ word ∷ rest) explain
    at None named number_is names_are none = absurd (none-some explain none)
    at (Some number) None number_is names_are none = absurd (none-some explain none)
    at (Some number) (Some names) number_is names_are some =
        let same : record { number = number; names = names } ≡ explain = cc in
        let from_one = ordinal_read (number_of word) number number_is in
        subst (λ e. IsExplain (codes "explain" ∷ word ∷ rest) e) same
        (record { word = word; rest = rest; words_are = refl; number_is = from_one.0; from_one = from_one.1; names_are = read_are_names rest names names_are })
