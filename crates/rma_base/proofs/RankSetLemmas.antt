-- Ascending lists of numbers without repeats.
use Rattle.std.proofs.Common.{◌≡◌, ℕ, zero, suc, ◌+◌, ◌-◌, ◌<◌, ◌≤◌, ◌||◌, ◌⊎◌, inl, inr, Bool, true, false, List, [], ◌∷◌, ◌++◌, length, get_or, refl, sym, ap, subst, ◌∙◌, arith, eq-eqb, ⊎_elim, eqb, ltb}
use Rattle.std.specs.List.{insert}
use Rattle.std.specs.List.Sorted.{IsStrictlyIncreasing}
use Rattle.std.proofs.lemmas.List.Folds.{list_any_at, list_any-append}
use Rattle.std.proofs.lemmas.List.Edits.{get_or-insert_at, get_or-insert_below, get_or-insert_above, length-insert}
use Rattle.std.proofs.lemmas.Bool.{cases_lt, false≢true, lt-ltb, le-ltb}
use Rattle.std.proofs.lemmas.Bool.Decides.{nat_tests}
use Rattle.rma_base.specs.RankSet.{has_repeat, has_number, placed}

rises : (xs : List ℕ) → IsStrictlyIncreasing xs → (i n : ℕ) → i + n < length xs → get_or xs i 0 ≤ get_or xs (i + n) 0
rises xs up i zero h = grind arith
rises xs up i (suc n) h =
    let one_more : i + suc n ≡ i + n + 1 = omega arith in
    subst (λ k. get_or xs i 0 ≤ get_or xs k 0) (sym one_more) (omega (arith, rises xs up i n (omega arith), up (i + n) (omega arith)))

pub rises_to : (xs : List ℕ) → IsStrictlyIncreasing xs → (i j : ℕ) → i ≤ j → j < length xs → get_or xs i 0 ≤ get_or xs j 0
rises_to xs up i j le lt =
    let far : i + (j - i) ≡ j = omega arith in
    subst (λ k. get_or xs i 0 ≤ get_or xs k 0) far (rises xs up i (j - i) (omega arith))

pub has_number_at : (xs : List ℕ) (n i : ℕ) → i < length xs → get_or xs i 0 ≡ n → has_number n xs ≡ true
has_number_at xs n i lt is = list_any_at (λ m. eqb m n) xs i 0 lt (eq-eqb (get_or xs i 0) n is)

test_fails : (x n : ℕ) → (x ≡ n → ⊥) → eqb x n ≡ false
test_fails x n differs = grind (arith, nat_tests)

has_number_none : (xs : List ℕ) (n : ℕ) → ((k : ℕ) → k < length xs → get_or xs k 0 ≡ n → ⊥) → has_number n xs ≡ false
has_number_none [] n differs = refl
has_number_none (x ∷ xs) n differs =
    let first : eqb x n ≡ false = test_fails x n (differs 0 (omega arith)) in
    rw first (has_number_none xs n (λ k lt. differs (suc k) (omega arith)))

pub has_number_between : (xs : List ℕ) (n i : ℕ) → ((k : ℕ) → k < i → get_or xs k 0 < n) → ((k : ℕ) → i ≤ k → k < length xs → n < get_or xs k 0) → has_number n xs ≡ false
has_number_between xs n i below above =
    has_number_none xs n (λ k lt is. ⊎_elim (λ low. let b = below k low in omega arith) (λ high. let a = above k high lt in omega arith) (cases_lt k i))

pub increasing_insert : (xs : List ℕ) (n i : ℕ) → IsStrictlyIncreasing xs → i ≤ length xs
    → ((k : ℕ) → k < i → get_or xs k 0 < n) → ((k : ℕ) → i ≤ k → k < length xs → n < get_or xs k 0) → IsStrictlyIncreasing (insert xs i n)
increasing_insert xs n i up within below above k lt =
    let len : length (insert xs i n) ≡ length xs + 1 = length-insert xs i n within in
    ⊎_elim
    (λ (low : k < i). ⊎_elim
    (λ (lower : k + 1 < i).
    let left : get_or (insert xs i n) k 0 ≡ get_or xs k 0 = get_or-insert_below xs i n 0 k low within in
    let right : get_or (insert xs i n) (k + 1) 0 ≡ get_or xs (k + 1) 0 = get_or-insert_below xs i n 0 (k + 1) lower within in
    let rising : get_or xs k 0 < get_or xs (k + 1) 0 = up k (omega arith) in
    omega arith)
    (λ (next : i ≤ k + 1).
    let at : k + 1 ≡ i = omega arith in
    let left : get_or (insert xs i n) k 0 ≡ get_or xs k 0 = get_or-insert_below xs i n 0 k low within in
    let right : get_or (insert xs i n) (k + 1) 0 ≡ n = ap (λ j. get_or (insert xs i n) j 0) at ∙ get_or-insert_at xs i n 0 within in
    let rising : get_or xs k 0 < n = below k low in
    omega arith)
    (cases_lt (k + 1) i))
    (λ (high : i ≤ k).
    let right : get_or (insert xs i n) (k + 1) 0 ≡ get_or xs k 0 = get_or-insert_above xs i n 0 k high within in
    ⊎_elim
    (λ (higher : i < k).
    let back : k - 1 + 1 ≡ k = omega arith in
    let beyond : i ≤ k - 1 = omega arith in
    let left : get_or (insert xs i n) k 0 ≡ get_or xs (k - 1) 0 = ap (λ j. get_or (insert xs i n) j 0) (sym back) ∙ get_or-insert_above xs i n 0 (k - 1) beyond within in
    let rising : get_or xs (k - 1) 0 < get_or xs (k - 1 + 1) 0 = up (k - 1) (omega arith) in
    let same : get_or xs (k - 1 + 1) 0 ≡ get_or xs k 0 = ap (λ j. get_or xs j 0) back in
    omega arith)
    (λ (next : k ≤ i).
    let at : k ≡ i = omega arith in
    let left : get_or (insert xs i n) k 0 ≡ n = ap (λ j. get_or (insert xs i n) j 0) at ∙ get_or-insert_at xs i n 0 within in
    let rising : n < get_or xs k 0 = above k high (omega arith) in
    omega arith)
    (cases_lt i k))
    (cases_lt k i)

test_sym : (x y : ℕ) → eqb x y ≡ eqb y x
test_sym x y = grind (arith, nat_tests)

regroup : (a e r n : Bool) → ((a || (e || false)) || (r || n)) ≡ ((a || r) || (e || n))
regroup true e r n = refl
regroup false true true n = refl
regroup false true false n = refl
regroup false false r n = refl

pub has_repeat_push : (xs : List ℕ) (x : ℕ) → has_repeat (xs ++ x ∷ []) ≡ (has_repeat xs || has_number x xs)
has_repeat_push [] x = refl
has_repeat_push (y ∷ ys) x =
    rw (list_any-append (λ m. eqb m y) ys (x ∷ []), has_repeat_push ys x, test_sym x y)
    (regroup (has_number y ys) (eqb y x) (has_repeat ys) (has_number x ys))

or_true : (a b : Bool) → (a || b) ≡ true → (a ≡ true) ⊎ (b ≡ true)
or_true true b h = inl refl
or_true false b h = inr h

true_or : (a b : Bool) → a ≡ true → (a || b) ≡ true
true_or a b h = rw h refl

or_right_lem : (a b : Bool) → b ≡ true → (a || b) ≡ true
or_right_lem true b h = refl
or_right_lem false b h = h

pub has_repeat_front : (xs ys : List ℕ) → has_repeat xs ≡ true → has_repeat (xs ++ ys) ≡ true
has_repeat_front [] ys h = absurd (false≢true h)
has_repeat_front (x ∷ xs) ys h =
    ⊎_elim
    (λ here. true_or _ _ (list_any-append (λ m. eqb m x) xs ys ∙ true_or _ _ here))
    (λ later. or_right_lem _ _ (has_repeat_front xs ys later))
    (or_true (has_number x xs) (has_repeat xs) h)

pub placed_insert : (xs : List ℕ) (n i : ℕ) → i ≤ length xs → ((k : ℕ) → k < i → get_or xs k 0 < n) → ((k : ℕ) → i ≤ k → k < length xs → n < get_or xs k 0)
    → placed n xs ≡ insert xs i n
placed_insert [] n zero within below above = refl
placed_insert [] n (suc i) within below above = absurd (omega arith)
placed_insert (x ∷ xs) n zero within below above =
    let first : ltb n x ≡ true = lt-ltb n x (above 0 (omega arith) (omega arith)) in rw first
placed_insert (x ∷ xs) n (suc i) within below above =
    let first : ltb n x ≡ false = le-ltb n x (let under = below 0 (omega arith) in omega arith) in
    rw first
    (ap (λ them. x ∷ them) (placed_insert xs n i (omega arith) (λ k low. below (suc k) (omega arith)) (λ k high there. above (suc k) (omega arith) (omega arith))))
