-- Where a number stands among ascending ones.
use Rattle.std.proofs.Common.{◌≡◌, ◌≢◌, ℕ, zero, suc, ◌+◌, ◌<◌, ◌≤◌, Bool, true, false, ◌∷◌, List, [], length, Option, Some, None, eqb, get_or, slice_get, position, IfSome, Bor, refl, sym, ap, ◌∙◌, subst, arith, ⊎_elim}
use Rattle.std.specs.Prelude.{MatchOption}
use Rattle.std.specs.List.{position_or_len, HoldsAt}
use Rattle.std.specs.Option.{option_copied}
use Rattle.std.proofs.lemmas.List.Quantifiers.{position-Some}
use Rattle.std.proofs.lemmas.Option.{slice_get_past, slice_get_read, slice_get-get_or}
use Rattle.std.proofs.lemmas.Bool.{eqb-true, lt-ltb, cases_lt}
use Rattle.std.proofs.lemmas.Bool.Decides.{nat_tests}

-- each number is above those before it
abbrev pub Rises : List ℕ → Type 0
Rises xs = (i j : ℕ) → i < j → j < length xs → get_or xs i 0 < get_or xs j 0

-- each number is at least this one
abbrev pub AreFrom : ℕ → List ℕ → Type 0
AreFrom n xs = (k : ℕ) → k < length xs → n ≤ get_or xs k 0

module _ (n : ℕ) (rest : List ℕ) (from : AreFrom (n + 1) rest) where
  pub from_cons : AreFrom n (n ∷ rest)
  from_cons zero lt = omega arith
  from_cons (suc k) lt = let le = from k (omega arith) in omega arith

  pub from_rest : AreFrom n rest
  from_rest k lt = let le = from k lt in omega arith

  pub rises_cons : Rises rest → Rises (n ∷ rest)
  rises_cons up zero zero lt within = absurd (omega arith)
  rises_cons up zero (suc j) lt within = let le = from j (omega arith) in omega arith
  rises_cons up (suc i) zero lt within = absurd (omega arith)
  rises_cons up (suc i) (suc j) lt within = up i j (omega arith) (omega arith)

pub never_falls : (xs : List ℕ) → Rises xs → (i j : ℕ) → i ≤ j → j < length xs → get_or xs i 0 ≤ get_or xs j 0
never_falls xs up i j le within = by (eqb i j) refl
  where
    by : (b : Bool) → eqb i j ≡ b → get_or xs i 0 ≤ get_or xs j 0
    by true same = let e : i ≡ j = grind (arith, nat_tests) in subst (λ k. get_or xs i 0 ≤ get_or xs k 0) e (omega arith)
    by false differ = let lt : i < j = grind (arith, nat_tests) in let less = up i j lt within in omega arith

differ : (a b : ℕ) → a ≢ b → eqb a b ≡ false
differ a b ne = grind (arith, nat_tests)

same : (a b : ℕ) → a ≡ b → eqb a b ≡ true
same a b is = grind (arith, nat_tests)

-- a number stands first where all before are below it
index_at : (n : ℕ) (xs : List ℕ) (i : ℕ) → ((k : ℕ) → k < i → get_or xs k 0 ≢ n) → i < length xs → get_or xs i 0 ≡ n → position_or_len (λ m. eqb m n) xs ≡ i
index_at n [] i before lt at = absurd (omega arith)
index_at n (x ∷ xs) zero before lt at = rw (same x n at) refl
index_at n (x ∷ xs) (suc i) before lt at =
    rw (differ x n (before 0 (omega arith)))
    (let later = index_at n xs i (λ k less. before (suc k) (omega arith)) (omega arith) at in omega (arith, later))

index_none : (n : ℕ) (xs : List ℕ) → ((k : ℕ) → k < length xs → get_or xs k 0 ≢ n) → position_or_len (λ m. eqb m n) xs ≡ length xs
index_none n [] none = refl
index_none n (x ∷ xs) none =
    rw (differ x n (none 0 (omega arith)))
    (let later = index_none n xs (λ k less. none (suc k) (omega arith)) in omega (arith, later))

pub position_at : (n : ℕ) (xs : List ℕ) (i : ℕ) → Rises xs → i < length xs → get_or xs i 0 ≡ n → position (λ m. eqb m n) xs ≡ Some i
position_at n xs i up lt at =
    let before : (k : ℕ) → k < i → get_or xs k 0 ≢ n = λ k less is. let below = up k i less lt in absurd (omega arith) in
    rw (index_at n xs i before lt at, lt-ltb i (length xs) lt) refl

pub position_none : (n : ℕ) (xs : List ℕ) → ((k : ℕ) → k < length xs → get_or xs k 0 ≢ n) → position (λ m. eqb m n) xs ≡ None
position_none n xs none = rw (index_none n xs none) (grind (arith, nat_tests))

-- what a slice has at an index, copied
pub copied_at : (xs : List ℕ) (i : ℕ) (r : Option (Bor ℕ)) → IfSome r (λ x. x.now ≡ get_or xs i x.now) → MatchOption r (length xs ≤ i) (λ x. (i < length xs) × HoldsAt (λ y. x.now ≡ y) xs i) →
    option_copied r ≡ slice_get xs i
copied_at xs i None is within = sym (slice_get_past xs i within)
copied_at xs i (Some x) is within = sym (slice_get_read xs (length xs) i x.now refl within.0 is)

-- a number that is above those before a place and below the others stands nowhere
pub apart : (xs : List ℕ) (n i : ℕ) → ((k : ℕ) → k < i → get_or xs k 0 < n) → ((k : ℕ) → i ≤ k → k < length xs → n < get_or xs k 0) → (k : ℕ) → k < length xs → get_or xs k 0 ≢ n
apart xs n i before from k within is =
    ⊎_elim
    (λ (lt : k < i). let below = before k lt in absurd (omega arith))
    (λ (le : i ≤ k). let above = from k le within in absurd (omega arith))
    (cases_lt k i)

-- what stands at the place of a number is the number
pub at_position : (n : ℕ) (xs : List ℕ) (i : ℕ) → position (λ m. eqb m n) xs ≡ Some i → slice_get xs i ≡ Some n
at_position n xs i is =
    let at = position-Some (λ m. eqb m n) xs i 0 is in
    slice_get-get_or xs i 0 at.0 ∙ ap Some (eqb-true (get_or xs i 0) n at.1)
