-- Ranks in ascending order.
use Rattle.std.proofs.Common.{◌≡◌, ℕ, ◌+◌, ◌<◌, ◌≤◌, ◌||◌, not, Bool, true, false, List, [], ◌∷◌, ◌++◌, refl, sym, ap, ◌∙◌, arith, ⊎_elim, eqb, ltb, leb, append_assoc}
use Rattle.std.specs.List.{list_all}
use Rattle.std.proofs.lemmas.Bool.{cases_lt, cases_Bool, false≢true, lt-ltb, le-ltb, ltb-true, leb-true, ne_eqb, eqb-false}
use Rattle.std.proofs.lemmas.List.{append-nil}
use Rattle.std.proofs.lemmas.Bool.Decides.{nat_tests}
use Rattle.rma_base.proofs.NameLemmas.{and_left, and_right}
use Rattle.rma_base.specs.RankSet.{has_repeat, has_number, placed, placed_all, ascending}

-- ranks up to the last one, each above those before it, and none below the first number
abbrev pub Rises : ℕ → ℕ → List ℕ → Type 0
Rises last low [] = Unit {0}
Rises last low (n ∷ more) = (low ≤ n) × (n ≤ last) × Rises last (n + 1) more

or_left_lem : (a b : Bool) → (a || b) ≡ false → a ≡ false
or_left_lem true b h = h
or_left_lem false b h = refl

or_right_lem : (a b : Bool) → (a || b) ≡ false → b ≡ false
or_right_lem true b h = absurd (false≢true (sym h))
or_right_lem false b h = h

or_swap : (a b c : Bool) → (a || (b || c)) ≡ (b || (a || c))
or_swap true true c = refl
or_swap true false c = refl
or_swap false b c = refl

pub not_true_lem : (b : Bool) → not b ≡ true → b ≡ false
not_true_lem true h = absurd (false≢true h)
not_true_lem false h = refl

test_sym : (x y : ℕ) → eqb x y ≡ eqb y x
test_sym x y = grind (arith, nat_tests)

Rises_placed : (last low n : ℕ) (xs : List ℕ) → Rises last low xs → low ≤ n → n ≤ last → has_number n xs ≡ false → Rises last low (placed n xs)
Rises_placed last low n [] up from to new = (from, to, tt)
Rises_placed last low n (x ∷ xs) up from to new =
    ⊎_elim
    (λ (below : n < x). let next : n + 1 ≤ x = omega arith in rw (lt-ltb n x below) (from, to, (next, up.1, up.2)))
    (λ (above : x ≤ n).
    let other : x ≡ n → ⊥ = eqb-false x n (or_left_lem (eqb x n) _ new) in
    let next : x + 1 ≤ n = omega arith in
    rw (le-ltb n x above) (up.0, up.1, Rises_placed last (x + 1) n xs up.2 next to (or_right_lem (eqb x n) _ new)))
    (cases_lt n x)

has_number_placed : (m n : ℕ) (xs : List ℕ) → has_number m (placed n xs) ≡ (eqb n m || has_number m xs)
has_number_placed m n [] = refl
has_number_placed m n (x ∷ xs) =
    ⊎_elim
    (λ (below : ltb n x ≡ true). rw below refl)
    (λ (above : ltb n x ≡ false). rw above (ap (λ later. eqb x m || later) (has_number_placed m n xs) ∙ or_swap (eqb x m) (eqb n m) (has_number m xs)))
    (cases_Bool (ltb n x))

-- none of the ranks is in the other list
abbrev all_new : List ℕ → List ℕ → Bool
all_new sorted ns = list_all (λ n. not (has_number n sorted)) ns

all_new_placed : (n : ℕ) (sorted ns : List ℕ) → has_number n ns ≡ false → all_new sorted ns ≡ true → all_new (placed n sorted) ns ≡ true
all_new_placed n sorted [] apart new = refl
all_new_placed n sorted (m ∷ ns) apart new =
    let first : eqb n m ≡ false = test_sym n m ∙ or_left_lem (eqb m n) _ apart in
    let here : has_number m sorted ≡ false = not_true_lem _ (and_left (not (has_number m sorted)) _ new) in
    rw (has_number_placed m n sorted, first, here) (all_new_placed n sorted ns (or_right_lem (eqb m n) _ apart) (and_right (not (has_number m sorted)) _ new))

Rises_placed_all : (last : ℕ) (sorted ns : List ℕ) → Rises last 0 sorted → list_all (λ n. leb n last) ns ≡ true → has_repeat ns ≡ false → all_new sorted ns ≡ true → Rises last 0 (placed_all sorted ns)
Rises_placed_all last sorted [] up ranks apart new = up
Rises_placed_all last sorted (n ∷ ns) up ranks apart new =
    let other : has_number n ns ≡ false = or_left_lem (has_number n ns) _ apart in
    let rank : n ≤ last = leb-true n last (and_left (leb n last) _ ranks) in
    let here : has_number n sorted ≡ false = not_true_lem _ (and_left (not (has_number n sorted)) _ new) in
    Rises_placed_all last (placed n sorted) ns (Rises_placed last 0 n sorted up (omega arith) rank here) (and_right (leb n last) _ ranks) (or_right_lem (has_number n ns) _ apart)
    (all_new_placed n sorted ns other (and_right (not (has_number n sorted)) _ new))

all_new_none : (ns : List ℕ) → all_new [] ns ≡ true
all_new_none [] = refl
all_new_none (n ∷ ns) = all_new_none ns

-- ranks of which none stands twice rise once they are in order
pub Rises_ascending : (last : ℕ) (ns : List ℕ) → list_all (λ n. leb n last) ns ≡ true → has_repeat ns ≡ false → Rises last 0 (ascending ns)
Rises_ascending last ns ranks apart = Rises_placed_all last [] ns tt ranks apart (all_new_none ns)

-- each number is below
abbrev all_below : ℕ → List ℕ → Bool
all_below n xs = list_all (λ x. ltb x n) xs

all_below_weaker : (low n : ℕ) (xs : List ℕ) → low ≤ n → all_below low xs ≡ true → all_below n xs ≡ true
all_below_weaker low n [] le below = refl
all_below_weaker low n (x ∷ xs) le below =
    let first : x < low = ltb-true x low (and_left (ltb x low) _ below) in
    let less : x < n = omega arith in
    rw (lt-ltb x n less) (all_below_weaker low n xs le (and_right (ltb x low) _ below))

all_below_push : (n : ℕ) (xs : List ℕ) → all_below n xs ≡ true → all_below (n + 1) (xs ++ n ∷ []) ≡ true
all_below_push n [] below = let less : n < n + 1 = omega arith in rw (lt-ltb n (n + 1) less) refl
all_below_push n (x ∷ xs) below =
    let first : x < n = ltb-true x n (and_left (ltb x n) _ below) in
    let less : x < n + 1 = omega arith in
    rw (lt-ltb x (n + 1) less) (all_below_push n xs (and_right (ltb x n) _ below))

placed_last : (n : ℕ) (xs : List ℕ) → all_below n xs ≡ true → placed n xs ≡ xs ++ n ∷ []
placed_last n [] below = refl
placed_last n (x ∷ xs) below =
    let first : x < n = ltb-true x n (and_left (ltb x n) _ below) in
    let above : x ≤ n = omega arith in
    rw (le-ltb n x above) (ap (λ them. x ∷ them) (placed_last n xs (and_right (ltb x n) _ below)))

placed_all_rising : (last low : ℕ) (sorted ns : List ℕ) → all_below low sorted ≡ true → Rises last low ns → placed_all sorted ns ≡ sorted ++ ns
placed_all_rising last low sorted [] below up = sym (append-nil sorted)
placed_all_rising last low sorted (n ∷ ns) below up =
    let under : all_below n sorted ≡ true = all_below_weaker low n sorted up.0 below in
    ap (λ them. placed_all them ns) (placed_last n sorted under)
    ∙ placed_all_rising last (n + 1) (sorted ++ n ∷ []) ns (all_below_push n sorted under) up.2
    ∙ append_assoc sorted (n ∷ []) ns

-- ranks that rise are in order
pub ascending_rising : (last : ℕ) (ns : List ℕ) → Rises last 0 ns → ascending ns ≡ ns
ascending_rising last ns up = placed_all_rising last 0 [] ns refl up

has_number_rising : (last m low : ℕ) (ns : List ℕ) → m < low → Rises last low ns → has_number m ns ≡ false
has_number_rising last m low [] less up = refl
has_number_rising last m low (n ∷ ns) less up =
    let from : low ≤ n = up.0 in
    let later : m < n + 1 = omega arith in
    let other : n ≡ m → ⊥ = λ same. omega arith in
    rw (ne_eqb n m other) (has_number_rising last m (n + 1) ns later up.2)

-- ranks that rise stand once
pub has_repeat_rising : (last low : ℕ) (ns : List ℕ) → Rises last low ns → has_repeat ns ≡ false
has_repeat_rising last low [] up = refl
has_repeat_rising last low (n ∷ ns) up =
    let less : n < n + 1 = omega arith in
    rw (has_number_rising last n (n + 1) ns less up.2) (has_repeat_rising last (n + 1) ns up.2)
