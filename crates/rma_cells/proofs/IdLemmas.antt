-- Ascending lists of ids.
use Rattle.std.proofs.Common.{◌≡◌, ◌≢◌, ℕ, zero, suc, ◌+◌, ◌-◌, ◌<◌, ◌≤◌, List, [], ◌∷◌, length, get_or, Ok, Err, sym, refl, ◌∙◌, arith, inl, inr, ◌⊎◌, ◌↔◌, ⊎_elim}
use Rattle.std.specs.List.{Contains, insert, remove}
use Rattle.std.specs.List.Sorted.{IsStrictlyIncreasing, IsBinarySearchResult}
use Rattle.std.specs.Ordering.{nat_cmp}
use Rattle.std.proofs.lemmas.List.{get_or_default}
use Rattle.std.proofs.lemmas.List.Sorted.{searched, IsPermutation-insert, IsPermutation-remove, Contains-permutation, IsPermutation-sym}
use Rattle.std.proofs.lemmas.List.Edits.{length-insert, get_or-insert_below, get_or-insert_at, get_or-insert_above, length-remove, get_or-remove_below, get_or-remove_above}
use Rattle.std.proofs.lemmas.List.Kept.{AllPairs-from_increasing}
use Rattle.std.proofs.lemmas.Bool.{cases_lt, cases_eq}

-- each id is below all later ones
pub below : (xs : List ℕ) → IsStrictlyIncreasing xs → (i j : ℕ) → i < j → j < length xs → get_or xs i 0 < get_or xs j 0
below xs up i j lt within = AllPairs-from_increasing xs up i j 0 lt within

-- and none after it is lower
pub rises : (xs : List ℕ) → IsStrictlyIncreasing xs → (i j : ℕ) → i ≤ j → j < length xs → get_or xs i 0 ≤ get_or xs j 0
rises xs up i j le within = grind (arith, below xs up i j)

pub contains_at : (xs : List ℕ) (x : ℕ) → Contains xs x → (k : ℕ) × (k < length xs) × (get_or xs k 0 ≡ x)
contains_at xs x has = (has.0, has.1, get_or_default xs has.0 0 x has.1 ∙ has.2)

pub contains_from : (xs : List ℕ) (x k : ℕ) → k < length xs → get_or xs k 0 ≡ x → Contains xs x
contains_from xs x k lt is = (k, lt, get_or_default xs k x 0 lt ∙ is)

pub contains_nil : (x : ℕ) → Contains [] x → ⊥
contains_nil x has = omega (arith, has.1)

pub contains_cons : (y : ℕ) (ys : List ℕ) (x : ℕ) → Contains (y ∷ ys) x → (x ≡ y) ⊎ Contains ys x
contains_cons y ys x (zero, lt, is) = inl (sym is)
contains_cons y ys x (suc k, lt, is) = inr (k, omega arith, is)

pub contains_head : (y : ℕ) (ys : List ℕ) → Contains (y ∷ ys) y
contains_head y ys = (zero, omega arith, refl)

pub contains_tail : (y : ℕ) (ys : List ℕ) (x : ℕ) → Contains ys x → Contains (y ∷ ys) x
contains_tail y ys x has = let lt : has.0 < length ys = has.1 in (suc has.0, omega arith, has.2)

-- an id that comes between the lower and the higher ones
pub insert_up : (xs : List ℕ) (i x : ℕ) → IsStrictlyIncreasing xs → i ≤ length xs → ((k : ℕ) → k < i → get_or xs k 0 < x) → ((k : ℕ) → i ≤ k → k < length xs → x < get_or xs k 0) → IsStrictlyIncreasing (insert xs i x)
insert_up xs i x up le low high k lt =
    let len = length-insert xs i x le in
    let here = get_or-insert_at xs i x 0 le in
    ⊎_elim
    (λ (is_lt : k + 1 < i). let a = get_or-insert_below xs i x 0 k (omega arith) le in let b = get_or-insert_below xs i x 0 (k + 1) is_lt le in omega (arith, up k (omega arith)))
    (λ (is_ge : i ≤ k + 1). ⊎_elim
    (λ (e : k + 1 ≡ i). let a = get_or-insert_below xs i x 0 k (omega arith) le in let b : get_or (insert xs i x) (k + 1) 0 ≡ x = rw e here in omega (arith, low k (omega arith)))
    (λ (ne : k + 1 ≢ i). ⊎_elim
    (λ (e : k ≡ i). let a : get_or (insert xs i x) k 0 ≡ x = rw e here in let b = get_or-insert_above xs i x 0 k (omega arith) le in omega (arith, high k (omega arith) (omega arith)))
    (λ (ne2 : k ≢ i). insert_up_far xs i x up le (k - 1) k (omega arith) lt (omega arith))
    (cases_eq k i))
    (cases_eq (k + 1) i))
    (cases_lt (k + 1) i)
  where
    insert_up_far : (xs : List ℕ) (i x : ℕ) → IsStrictlyIncreasing xs → i ≤ length xs → (m k : ℕ) → k ≡ m + 1 → k + 1 < length (insert xs i x) → i < k → get_or (insert xs i x) k 0 < get_or (insert xs i x) (k + 1) 0
    insert_up_far xs i x up le m k e lt far =
        let len = length-insert xs i x le in
        let a : get_or (insert xs i x) k 0 ≡ get_or xs m 0 = rw e (get_or-insert_above xs i x 0 m (omega arith) le) in
        let b = get_or-insert_above xs i x 0 k (omega arith) le in
        let c : get_or xs k 0 ≡ get_or xs (m + 1) 0 = rw e refl in
        omega (arith, up m (omega arith))

pub insert_has : (xs : List ℕ) (i x : ℕ) (other : ℕ) → Contains (insert xs i x) other ↔ (Contains xs other ⊎ (other ≡ x))
insert_has xs i x other =
    let moved = IsPermutation-insert xs i x in (
      λ has. ⊎_elim (λ (e : other ≡ x). inr e) (λ (h : Contains xs other). inl h) (contains_cons x xs other (Contains-permutation _ _ other (IsPermutation-sym _ _ moved) has)),
      λ or. Contains-permutation _ _ other moved (⊎_elim (λ (h : Contains xs other). contains_tail x xs other h) (λ (e : other ≡ x). (rw e (contains_head x xs))) or),
    )

pub remove_up : (xs : List ℕ) (i : ℕ) → IsStrictlyIncreasing xs → i < length xs → IsStrictlyIncreasing (remove xs i)
remove_up xs i up lt k within =
    let len = length-remove xs i lt in
    ⊎_elim
    (λ (l : k < i). ⊎_elim
    (λ (l2 : k + 1 < i). let a = get_or-remove_below xs i 0 k l lt in let b = get_or-remove_below xs i 0 (k + 1) l2 lt in omega (arith, up k (omega arith)))
    (λ (g2 : i ≤ k + 1). let a = get_or-remove_below xs i 0 k l lt in let b = get_or-remove_above xs i 0 (k + 1) g2 lt in omega (arith, below xs up k (k + 1 + 1) (omega arith) (omega arith)))
    (cases_lt (k + 1) i))
    (λ (g : i ≤ k). let a = get_or-remove_above xs i 0 k g lt in let b = get_or-remove_above xs i 0 (k + 1) (omega arith) lt in omega (arith, up (k + 1) (omega arith)))
    (cases_lt k i)

-- the ids of a list that ascends differ
pub same_place : (xs : List ℕ) → IsStrictlyIncreasing xs → (i j : ℕ) → i < length xs → j < length xs → get_or xs i 0 ≡ get_or xs j 0 → i ≡ j
same_place xs up i j lt lu e =
    ⊎_elim (λ (l : i < j). absurd (omega (arith, below xs up i j l lu)))
    (λ (g : j ≤ i). ⊎_elim (λ (l : j < i). absurd (omega (arith, below xs up j i l lt))) (λ (g2 : i ≤ j). omega arith) (cases_lt j i))
    (cases_lt i j)

pub remove_has : (xs : List ℕ) (i : ℕ) → IsStrictlyIncreasing xs → i < length xs → (other : ℕ) → Contains (remove xs i) other ↔ (Contains xs other × (other ≢ get_or xs i 0))
remove_has xs i up lt other =
    let x = get_or xs i 0 in
    let read : x ≡ get_or xs i x = get_or_default xs i 0 x lt in
    let moved = IsPermutation-remove xs i x lt read in (
      λ has. (Contains-permutation _ _ other (IsPermutation-sym _ _ moved) (contains_tail x (remove xs i) other has), λ e. not_there xs i up lt (contains_at (remove xs i) x (rw (← e) has))),
      λ both. ⊎_elim (λ (e : other ≡ x). absurd (both.1 e)) (λ (h : Contains (remove xs i) other). h) (contains_cons x (remove xs i) other (Contains-permutation _ _ other moved both.0)),
    )
  where
    not_there : (xs : List ℕ) (i : ℕ) → IsStrictlyIncreasing xs → i < length xs → (k : ℕ) × (k < length (remove xs i)) × (get_or (remove xs i) k 0 ≡ get_or xs i 0) → ⊥
    not_there xs i up lt at =
        let k = at.0 in
        let within : k < length (remove xs i) = at.1 in
        let is : get_or (remove xs i) k 0 ≡ get_or xs i 0 = at.2 in
        let len = length-remove xs i lt in
        ⊎_elim
        (λ (l : k < i). let a = get_or-remove_below xs i 0 k l lt in omega (arith, below xs up k i l lt))
        (λ (g : i ≤ k). let a = get_or-remove_above xs i 0 k g lt in omega (arith, below xs up i (k + 1) (omega arith) (omega arith)))
        (cases_lt k i)

up_tail : (y : ℕ) (ys : List ℕ) → IsStrictlyIncreasing (y ∷ ys) → IsStrictlyIncreasing ys
up_tail y ys up k lt = below (y ∷ ys) up (suc k) (suc (k + 1)) (omega arith) (omega arith)

-- the ids after the first are greater
after_head : (y : ℕ) (ys : List ℕ) → IsStrictlyIncreasing (y ∷ ys) → (x : ℕ) → Contains ys x → y < x
after_head y ys up x has =
    let at = contains_at ys x has in
    let lt : at.0 < length ys = at.1 in
    let is : get_or ys at.0 0 ≡ x = at.2 in
    omega (arith, below (y ∷ ys) up 0 (suc at.0) (omega arith) (omega arith))

-- ascending lists with the same ids are equal
pub same_ids : (xs ys : List ℕ) → IsStrictlyIncreasing xs → IsStrictlyIncreasing ys → ((x : ℕ) → Contains xs x ↔ Contains ys x) → xs ≡ ys
same_ids [] [] up_x up_y same = refl
same_ids [] (y ∷ ys) up_x up_y same = absurd (contains_nil y ((same y).1 (contains_head y ys)))
same_ids (x ∷ xs) [] up_x up_y same = absurd (contains_nil x ((same x).0 (contains_head x xs)))
same_ids (x ∷ xs) (y ∷ ys) up_x up_y same =
    let head = same_head x y xs ys up_x up_y same in
    let tail = same_ids xs ys (up_tail x xs up_x) (up_tail y ys up_y) (same_tail x y xs ys up_x up_y head same) in
    cc
  where
    same_head : (x y : ℕ) (xs ys : List ℕ) → IsStrictlyIncreasing (x ∷ xs) → IsStrictlyIncreasing (y ∷ ys) → ((z : ℕ) → Contains (x ∷ xs) z ↔ Contains (y ∷ ys) z) → x ≡ y
    same_head x y xs ys up_x up_y same =
        ⊎_elim (λ (e : x ≡ y). e)
        (λ (in_y : Contains ys x). ⊎_elim (λ (e : y ≡ x). sym e) (λ (in_x : Contains xs y). absurd (omega (arith, after_head x xs up_x y in_x, after_head y ys up_y x in_y))) (contains_cons x xs y ((same y).1 (contains_head y ys))))
        (contains_cons y ys x ((same x).0 (contains_head x xs)))

    same_tail : (x y : ℕ) (xs ys : List ℕ) → IsStrictlyIncreasing (x ∷ xs) → IsStrictlyIncreasing (y ∷ ys) → x ≡ y → ((z : ℕ) → Contains (x ∷ xs) z ↔ Contains (y ∷ ys) z) → (z : ℕ) → Contains xs z ↔ Contains ys z
    same_tail x y xs ys up_x up_y e same z = (
      λ has. ⊎_elim (λ (q : z ≡ y). absurd (omega (arith, after_head x xs up_x z has))) (λ (h : Contains ys z). h) (contains_cons y ys z ((same z).0 (contains_tail x xs z has))),
      λ has. ⊎_elim (λ (q : z ≡ x). absurd (omega (arith, after_head y ys up_y z has))) (λ (h : Contains xs z). h) (contains_cons x xs z ((same z).1 (contains_tail y ys z has))),
    )

sorted : (xs : List ℕ) → IsStrictlyIncreasing xs → (i j : ℕ) → i ≤ j → j < length xs → get_or xs i 0 ≤ get_or xs j 0
sorted xs up i j = rises xs up i j

-- where a search says that an id is to come
pub inserted_up : (xs zs : List ℕ) (i x : ℕ) → IsStrictlyIncreasing xs → IsBinarySearchResult (λ y. nat_cmp y x) xs (Err i) → zs ≡ insert xs i x → IsStrictlyIncreasing zs
inserted_up xs zs i x up result is =
    let found = searched xs x (Err i) result (sorted xs up) in
    rw is (insert_up xs i x up found.0 found.1 found.2)

-- where a search says that an id stands
pub found_at : (xs : List ℕ) (i x : ℕ) → IsStrictlyIncreasing xs → IsBinarySearchResult (λ y. nat_cmp y x) xs (Ok i) → (i < length xs) × (get_or xs i 0 ≡ x)
found_at xs i x up result = searched xs x (Ok i) result (sorted xs up)

-- where a search finds none, none stands
pub not_found : (xs : List ℕ) (i x : ℕ) → IsStrictlyIncreasing xs → IsBinarySearchResult (λ y. nat_cmp y x) xs (Err i) → Contains xs x → ⊥
not_found xs i x up result has =
    let found = searched xs x (Err i) result (sorted xs up) in
    let at = contains_at xs x has in
    let lt : at.0 < length xs = at.1 in
    let is : get_or xs at.0 0 ≡ x = at.2 in
    ⊎_elim (λ (l : at.0 < i). omega (arith, found.1 at.0 l)) (λ (g : i ≤ at.0). omega (arith, found.2 at.0 g lt)) (cases_lt at.0 i)

-- an id that stands already, put in again
pub found_has : (xs : List ℕ) (i x : ℕ) → IsStrictlyIncreasing xs → IsBinarySearchResult (λ y. nat_cmp y x) xs (Ok i) → (other : ℕ) → Contains xs other ↔ (Contains xs other ⊎ (other ≡ x))
found_has xs i x up result other =
    let at = found_at xs i x up result in
    (λ has. inl has, λ or. ⊎_elim (λ (has : Contains xs other). has) (λ (e : other ≡ x). rw e (contains_from xs x i at.0 at.1)) or)

pub removed_has : (xs zs : List ℕ) (i x : ℕ) → IsStrictlyIncreasing xs → IsBinarySearchResult (λ y. nat_cmp y x) xs (Ok i) → zs ≡ remove xs i → (other : ℕ) → Contains zs other ↔ (Contains xs other × (other ≢ x))
removed_has xs zs i x up result is other =
    let at = found_at xs i x up result in
    rw is (rw (← at.1) (remove_has xs i up at.0 other))
