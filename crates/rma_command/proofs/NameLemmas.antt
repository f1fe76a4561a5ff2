-- The names of logs among the words.
use Rattle.std.proofs.Common.{◌≡◌, ◌≢◌, ℕ, ◌≤◌, Bool, true, false, cond, List, [], ◌∷◌, ◌<◌, suc, length, codes, All, Some, None, ◌&&◌, ◌==◌, not, nat_le, map, slice_index_or, refl, sym, ap, subst, inl, inr, ◌∙◌, arith}
use Rattle.std.specs.List.{list_all}
use Rattle.std.proofs.lemmas.Bool.{leb-true, le-leb, eqb-true, false≢true}
use Rattle.std.proofs.lemmas.Option.{none-some}
use Rattle.std.proofs.lemmas.Slice.Eq.{bytes_eq-Decides}
use Rattle.std.proofs.lemmas.List.Elements.{All-cons}
use Rattle.std.proofs.lemmas.List.Folds.{list_all-map, list_all_at}
use Rattle.rma_base.specs.Limits.{rank_limit}
use Rattle.rma_base.proofs.NameLemmas.{and_left, and_right}
use Rattle.rma_command.specs.Words.{IsName, IsSome, AreNames}
use Rattle.rma_command.specs.inside.Words.{is, is_name, is_some, names_if, names_from, json_from, limit_from}

-- ---- names of a kind

name_passes : (word : List ℕ) → IsName word → is_name word ≡ true
name_passes [] h = absurd h
name_passes (first ∷ rest) h = by (first == 45) refl
  where
    by : (b : Bool) → (first == 45) ≡ b → not b ≡ true
    by false fails = refl
    by true holds = absurd (h (eqb-true first 45 holds))

passes_name : (word : List ℕ) → is_name word ≡ true → IsName word
passes_name [] h = absurd (false≢true h)
passes_name (first ∷ rest) h = λ dash. absurd (false≢true (sym (ap (λ n. not (n == 45)) dash) ∙ h))

some_passes : (word : List ℕ) → IsSome word → is_some word ≡ true
some_passes [] h = absurd h
some_passes (first ∷ rest) h = refl

passes_some : (word : List ℕ) → is_some word ≡ true → IsSome word
passes_some [] h = absurd (false≢true h)
passes_some (first ∷ rest) h = tt

module _ (P : List ℕ → Type 0) (test : List ℕ → Bool) where
  all_pass : ((word : List ℕ) → P word → test word ≡ true) → (words : List (List ℕ)) → All P words → list_all test words ≡ true
  all_pass each [] all = refl
  all_pass each (word ∷ words) all =
      rw (each word (all 0 [] (omega arith)), all_pass each words (λ k d below. all (suc k) d (omega (arith, below)))) refl

  pass_all : ((word : List ℕ) → test word ≡ true → P word) → (words : List (List ℕ)) → list_all test words ≡ true → All P words
  pass_all each [] all = λ k d below. absurd (omega (arith, below))
  pass_all each (word ∷ words) all =
      All-cons P word words (each word (and_left (test word) (list_all test words) all)) (pass_all each words (and_right (test word) (list_all test words) all))

  -- as many names as there may be, each of the kind
  names_read : ((word : List ℕ) → P word → test word ≡ true) → (names : List (List ℕ)) → 1 ≤ length names → length names ≤ rank_limit → All P names → names_if (list_all test names) names ≡ Some names
  names_read each names some few all = rw (all_pass each names all, le-leb 1 (length names) some, le-leb (length names) rank_limit few) refl

  read_names : ((word : List ℕ) → test word ≡ true → P word) → (words names : List (List ℕ)) → names_if (list_all test words) words ≡ Some names →
      (words ≡ names) × (1 ≤ length names) × (length names ≤ rank_limit) × All P names
  read_names each words names read = by (list_all test words && nat_le 1 (length words) && nat_le (length words) rank_limit) refl read
    where
      by : (b : Bool) → (list_all test words && nat_le 1 (length words) && nat_le (length words) rank_limit) ≡ b → cond b (Some words) None ≡ Some names →
          (words ≡ names) × (1 ≤ length names) × (length names ≤ rank_limit) × All P names
      by false none h = absurd (none-some names h)
      by true holds h =
          let same : words ≡ names = cc in
          let some = nat_le 1 (length words) in
          let few = nat_le (length words) rank_limit in
          let first = and_left (list_all test words && some) few holds in (
            same,
            subst (λ them. 1 ≤ length them) same (leb-true 1 (length words) (and_right (list_all test words) some first)),
            subst (λ them. length them ≤ rank_limit) same (leb-true (length words) rank_limit (and_right (list_all test words && some) few holds)),
            subst (All P) same (pass_all each words (and_left (list_all test words) some first)),
          )

-- ---- all words behind the options

-- a first word that is no option
no_option : (first : ℕ) (rest option : List ℕ) → first ≢ 45 → is (first ∷ rest) (45 ∷ option) ≡ false
no_option first rest option plain = by (first == 45) refl
  where
    by : (b : Bool) → (first == 45) ≡ b → (b && is rest option) ≡ false
    by false fails = refl
    by true holds = absurd (plain (eqb-true first 45 holds))

-- names are no limit, no form, and read as names
pub record AreRead (words names : List (List ℕ)) : Type 0 where
  pub no_limit : limit_from words ≡ Some (None, words)
  pub no_form : json_from words ≡ (false, words)
  pub names_are : names_from words ≡ Some names

plain_names : (names : List (List ℕ)) → 1 ≤ length names → length names ≤ rank_limit → All IsName names → AreRead names names
plain_names [] some few all = absurd (omega (arith, some))
plain_names ([] ∷ names) some few all = absurd (all 0 [] (omega arith))
plain_names ((first ∷ rest) ∷ names) some few all =
    let plain : first ≢ 45 = all 0 [] (omega arith) in record {
      no_limit = rw (no_option first rest (codes "-limit") plain) refl;
      no_form = rw (no_option first rest (codes "-json") plain) refl;
      names_are = rw (no_option first rest (codes "-") plain) (names_read IsName is_name name_passes ((first ∷ rest) ∷ names) some few all);
    }

pub names_are_read : (words names : List (List ℕ)) → AreNames words names → AreRead words names
names_are_read words names (some, few, inl (same, all)) = subst (λ them. AreRead them names) (sym same) (plain_names names some few all)
names_are_read words names (some, few, inr (same, all)) =
    subst (λ them. AreRead them names) (sym same) (record { no_limit = refl; no_form = refl; names_are = names_read IsSome is_some some_passes names some few all })

pub read_are_names : (words names : List (List ℕ)) → names_from words ≡ Some names → AreNames words names
read_are_names [] names read = absurd (none-some names read)
read_are_names (word ∷ words) names read = by (is_dashes word) refl read
  where
    is_dashes : List ℕ → Bool
    is_dashes word = is word (codes "--")

    by : (b : Bool) → is_dashes word ≡ b → cond b (names_if (list_all is_some words) words) (names_if (list_all is_name (word ∷ words)) (word ∷ words)) ≡ Some names → AreNames (word ∷ words) names
    by false fails h = let found = read_names IsName is_name passes_name (word ∷ words) names h in (found.1, found.2, inl (found.0, found.3))
    by true holds h =
        let found = read_names IsSome is_some passes_some words names h in
        let dashes : word ≡ codes "--" = (bytes_eq-Decides word (codes "--")).0 holds in
        (found.1, found.2, inr (ap (λ w. w ∷ words) dashes ∙ ap (λ them. codes "--" ∷ them) found.0, found.3))

-- ---- words that are not all of the right form

pub one_fails : {W : Type 0} (text : W → List ℕ) (test : List ℕ → Bool) (words : List W) (i : ℕ) (word : W) → i < length words → word ≡ slice_index_or words i word → test (text word) ≡ false →
    false ≡ list_all test (map text words)
one_fails text test words i word below same fails =
    sym (list_all-map test text words ∙ list_all_at (λ w. test (text w)) words i word below (ap (λ w. test (text w)) (sym same) ∙ fails))
