-- Words of assertions, one more at a time.
use Rattle.std.proofs.Common.{◌≡◌, ℕ, zero, suc, ◌<◌, Bool, true, false, ◌||◌, List, [], ◌∷◌, ◌++◌, length, take, drop, get_or, Bor, Some, None, refl, sym, ap, ◌∙◌, ⊎_elim, arith}
use Rattle.std.specs.Prelude.{find}
use Rattle.std.specs.List.{list_all, list_any}
use Rattle.std.proofs.lemmas.Bool.{cases_Bool}
use Rattle.std.proofs.lemmas.List.Folds.{list_all-append, list_any-append}
use Rattle.std.proofs.lemmas.Slice.Eq.{bytes_eq-Decides}
use Rattle.rma_call.specs.declared.assertion.Assertion.{Assertion}
use Rattle.rma_call.specs.declared.assertion.Assertion.TheVariants.{Nocheck, Noprecede, Nosucceed, Nostore, Noput}
use Rattle.rma_call.specs.Assertion.{assertion_word, asserts, with_assertion}
use Rattle.rma_field.specs.Assertions.{asserted, is_one_of, repeats_word, stands}
use Rattle.rma_field.specs.Kinds.{is_word}
use Rattle.rma_field.specs.Texts.{texts_at}
use Rattle.rma_field.specs.declared.assertion_field.Found.{Found}
use Rattle.rma_field.specs.inside.Found.{IsFound}

or_false : (b : Bool) → (b || false) ≡ b
or_false true = refl
or_false false = refl

or_true : (b : Bool) → (b || true) ≡ true
or_true true = refl
or_true false = refl

any_push : (p : List ℕ → Bool) (words : List (List ℕ)) (word : List ℕ) → list_any p (words ++ word ∷ []) ≡ (list_any p words || p word)
any_push p words word = list_any-append p words (word ∷ []) ∙ ap (λ b. list_any p words || b) (or_false (p word))

-- the assertion's word stands there then, and no other is new
asserted_more : (words : List (List ℕ)) (it : Assertion) → asserted (words ++ assertion_word it ∷ []) ≡ with_assertion (asserted words) it
asserted_more words Nocheck = simp (any_push, or_false, or_true)
asserted_more words Noprecede = simp (any_push, or_false, or_true)
asserted_more words Nosucceed = simp (any_push, or_false, or_true)
asserted_more words Nostore = simp (any_push, or_false, or_true)
asserted_more words Noput = simp (any_push, or_false, or_true)

pub asserts_asserted : (words : List (List ℕ)) (it : Assertion) → asserts (asserted words) it ≡ stands words it
asserts_asserted words Nocheck = refl
asserts_asserted words Noprecede = refl
asserts_asserted words Nosucceed = refl
asserts_asserted words Nostore = refl
asserts_asserted words Noput = refl

regroup : (a b c d : Bool) → ((a || b) || (c || d)) ≡ ((b || c) || (a || d))
regroup true true c d = refl
regroup true false true d = refl
regroup true false false d = refl
regroup false true c d = refl
regroup false false c d = refl

-- a word stands twice where one did, or the last one stood before
repeats_word_more : (words : List (List ℕ)) (word : List ℕ) → repeats_word (words ++ word ∷ []) ≡ (list_any (is_word word) words || repeats_word words)
repeats_word_more [] word = refl
repeats_word_more (first ∷ words) word =
    rw (any_push (λ other. is_word other first) words word, repeats_word_more words word)
    (regroup (list_any (λ other. is_word other first) words) (is_word word first) (list_any (is_word word) words) (repeats_word words))

-- an assertion that was found by its word
found_is : (them : List Assertion) (word : List ℕ) (it : Assertion) → find (λ it. is_word (assertion_word it) word) them ≡ Some it
    → (is_one_of them word ≡ true) × (word ≡ assertion_word it)
found_is [] word it is = absurd (cc is)
found_is (first ∷ them) word it is =
    ⊎_elim
    (λ (here : is_word (assertion_word first) word ≡ true).
    let same : first ≡ it = let found = rw here at is in cc found in
    (rw here refl, (bytes_eq-Decides word (assertion_word first)).0 here ∙ ap assertion_word same))
    (λ (other : is_word (assertion_word first) word ≡ false).
    let later = found_is them word it (rw other at is) in
    (rw other later.0, later.1))
    (cases_Bool (is_word (assertion_word first) word))

none_is : (them : List Assertion) (word : List ℕ) → find (λ it. is_word (assertion_word it) word) them ≡ None → is_one_of them word ≡ false
none_is [] word is = refl
none_is (first ∷ them) word is =
    ⊎_elim
    (λ (here : is_word (assertion_word first) word ≡ true). absurd (let bad = rw here at is in cc bad))
    (λ (other : is_word (assertion_word first) word ≡ false). rw other (none_is them word (rw other at is)))
    (cases_Bool (is_word (assertion_word first) word))

-- one more word was found
pub IsFound_more : (them : List Assertion) (words : List (List ℕ)) (word : List ℕ) (it : Assertion) (old new : Found)
    → find (λ it. is_word (assertion_word it) word) them ≡ Some it → IsFound them words old
    → new.assertions ≡ with_assertion old.assertions it → new.repeated ≡ (asserts old.assertions it || old.repeated)
    → IsFound them (words ++ word ∷ []) new
IsFound_more them words word it old new is before assertions repeated =
    let found = found_is them word it is in
    record {
      known = list_all-append (is_one_of them) words (word ∷ []) ∙ rw (before.known, found.0) refl;
      assertions = assertions ∙ ap (λ those. with_assertion those it) before.assertions ∙ sym (asserted_more words it) ∙ ap (λ last. asserted (words ++ last ∷ [])) (sym found.1);
      repeated =
          repeated
          ∙ rw (before.repeated, before.assertions, asserts_asserted words it) (ap (λ last. list_any (is_word last) words || repeats_word words) (sym found.1))
          ∙ sym (repeats_word_more words word);
    }

-- a word that is none of these
pub unknown_word : (them : List Assertion) (words : List (List ℕ)) (word : List ℕ) (rest : List (List ℕ))
    → find (λ it. is_word (assertion_word it) word) them ≡ None → list_all (is_one_of them) words ≡ true → list_all (is_one_of them) (words ++ word ∷ rest) ≡ false
unknown_word them words word rest none known = list_all-append (is_one_of them) words (word ∷ rest) ∙ rw (known, none_is them word none) refl

-- the words up to an index and one more, and those after it
pub texts_more : (words : List (Bor (List ℕ))) (i : ℕ) (other : Bor (List ℕ)) → i < length words → texts_at (take (suc i) words) ≡ texts_at (take i words) ++ (get_or words i other).now ∷ []
texts_more [] i other within = absurd (omega arith)
texts_more (word ∷ words) zero other within = refl
texts_more (word ∷ words) (suc i) other within = ap (λ them. word.now ∷ them) (texts_more words i other (omega arith))

pub texts_split : (words : List (Bor (List ℕ))) (i : ℕ) (other : Bor (List ℕ)) → i < length words → texts_at words ≡ texts_at (take i words) ++ (get_or words i other).now ∷ texts_at (drop (suc i) words)
texts_split [] i other within = absurd (omega arith)
texts_split (word ∷ words) zero other within = refl
texts_split (word ∷ words) (suc i) other within = ap (λ them. word.now ∷ them) (texts_split words i other (omega arith))
