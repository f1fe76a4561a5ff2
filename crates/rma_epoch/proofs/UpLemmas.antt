-- Lists whose keys ascend.
use Rattle.std.proofs.Common.{◌≡◌, ◌≢◌, ℕ, zero, suc, ◌<◌, ◌≤◌, Bool, true, false, List, [], ◌∷◌, length, get_or, nat_lt, eqb, position, lt-ltb, Some, None, Err, slice_get, refl, sym, ap, subst, ◌∙◌, arith}
use Rattle.std.specs.Prelude.{find}
use Rattle.std.specs.List.{position_or_len, HoldsAt}
use Rattle.std.specs.Ordering.{nat_cmp, ordering_index}
use Rattle.std.specs.declared.cmp.Ordering.TheVariants.{Equal}
use Rattle.std.specs.List.Sorted.{IsBinarySearchResult, IsNonDecreasingBy}
use Rattle.std.proofs.lemmas.Cmp.{ranked}
use Rattle.std.proofs.lemmas.Bool.Decides.{nat_tests}
use Rattle.std.proofs.lemmas.Option.{get_or_from_slice_get, slice_get-get_or, slice_get_within}

-- ---- the first that passes

module _ {X : Type 0} (p : X → Bool) where
  index_first : (xs : List X) (i : ℕ) (x : X) → slice_get xs i ≡ Some x → p x ≡ true → ((j : ℕ) (y : X) → j < i → slice_get xs j ≡ Some y → p y ≡ false) → position_or_len p xs ≡ i
  index_first [] i x at is before = absurd (let no : ⊥ = cc in no)
  index_first (y ∷ ys) zero x at is before = let same : y ≡ x = cc in rw (ap p same ∙ is) refl
  index_first (y ∷ ys) (suc i) x at is before = rw (before 0 y (omega arith) refl) (let later = index_first ys i x at is (λ j z lt there. before (suc j) z (omega arith) there) in omega (arith, later))

  index_none : (xs : List X) → ((j : ℕ) (y : X) → slice_get xs j ≡ Some y → p y ≡ false) → position_or_len p xs ≡ length xs
  index_none [] none = refl
  index_none (y ∷ ys) none = rw (none 0 y refl) (let later = index_none ys (λ j z there. none (suc j) z there) in omega (arith, later))

  pub position_first : (xs : List X) (i : ℕ) (x : X) → slice_get xs i ≡ Some x → p x ≡ true → ((j : ℕ) (y : X) → j < i → slice_get xs j ≡ Some y → p y ≡ false) → position p xs ≡ Some i
  position_first xs i x at is before = let within = slice_get_within xs i x at in rw (index_first xs i x at is before, lt-ltb i (length xs) within) refl

  pub position_none : (xs : List X) → ((j : ℕ) (y : X) → slice_get xs j ≡ Some y → p y ≡ false) → position p xs ≡ None
  position_none xs none = rw (index_none xs none) (grind (arith, nat_tests))

  pub find_first : (xs : List X) (i : ℕ) (x : X) → slice_get xs i ≡ Some x → p x ≡ true → ((j : ℕ) (y : X) → j < i → slice_get xs j ≡ Some y → p y ≡ false) → find p xs ≡ Some x
  find_first [] i x at is before = absurd (let no : ⊥ = cc in no)
  find_first (y ∷ ys) zero x at is before = let same : y ≡ x = cc in rw (ap p same ∙ is) (ap Some same)
  find_first (y ∷ ys) (suc i) x at is before = rw (before 0 y (omega arith) refl) (find_first ys i x at is (λ j z lt there. before (suc j) z (omega arith) there))

  pub find_nothing : (xs : List X) → ((j : ℕ) (y : X) → slice_get xs j ≡ Some y → p y ≡ false) → find p xs ≡ None
  find_nothing [] none = refl
  find_nothing (y ∷ ys) none = rw (none 0 y refl) (find_nothing ys (λ j z there. none (suc j) z there))

-- what stands within a list
pub there : {X : Type 0} (xs : List X) (i : ℕ) → i < length xs → (x : X) × (slice_get xs i ≡ Some x)
there [] i within = absurd (omega arith)
there (x ∷ xs) zero within = (x, refl)
there (x ∷ xs) (suc i) within = there xs i (omega arith)

-- comparisons rise with what is compared
rising : (a b n : ℕ) → a < b → ordering_index (nat_cmp a n) ≤ ordering_index (nat_cmp b n)
rising a b n lt = grind (arith, nat_tests)

-- ---- keys that ascend

module _ {X : Type 0} (key : X → ℕ) where
  -- of two elements the later one has the larger key
  abbrev pub Up : List X → Type 0
  Up xs = (i j : ℕ) (a b : X) → i < j → slice_get xs i ≡ Some a → slice_get xs j ≡ Some b → key a < key b

  -- a key is not another
  differs : (x : X) (n : ℕ) → key x ≢ n → eqb (key x) n ≡ false
  differs x n apart = by (eqb (key x) n) refl
    where
      by : (b : Bool) → eqb (key x) n ≡ b → b ≡ false
      by true same = absurd (let is : key x ≡ n = grind (arith, nat_tests) in apart is)
      by false same = refl

  same : (x : X) (n : ℕ) → key x ≡ n → eqb (key x) n ≡ true
  same x n is = grind (arith, nat_tests)

  -- the element of a key is the one at its place
  pub position_up : (xs : List X) → Up xs → (i : ℕ) (x : X) (n : ℕ) → slice_get xs i ≡ Some x → key x ≡ n → position (λ y. eqb (key y) n) xs ≡ Some i
  position_up xs up i x n at is = position_first (λ y. eqb (key y) n) xs i x at (same x n is) (λ j y lt found. differs y n (λ e. let less = up j i y x lt found at in absurd (omega arith)))

  pub position_missing : (xs : List X) (n : ℕ) → ((j : ℕ) (y : X) → slice_get xs j ≡ Some y → key y ≢ n) → position (λ y. eqb (key y) n) xs ≡ None
  position_missing xs n none = position_none (λ y. eqb (key y) n) xs (λ j y found. differs y n (none j y found))

  pub find_up : (xs : List X) → Up xs → (i : ℕ) (x : X) (n : ℕ) → slice_get xs i ≡ Some x → key x ≡ n → find (λ y. eqb (key y) n) xs ≡ Some x
  find_up xs up i x n at is = find_first (λ y. eqb (key y) n) xs i x at (same x n is) (λ j y lt found. differs y n (λ e. let less = up j i y x lt found at in absurd (omega arith)))

  pub find_missing : (xs : List X) (n : ℕ) → ((j : ℕ) (y : X) → slice_get xs j ≡ Some y → key y ≢ n) → find (λ y. eqb (key y) n) xs ≡ None
  find_missing xs n none = find_nothing (λ y. eqb (key y) n) xs (λ j y found. differs y n (none j y found))

  -- ---- searches

  -- what a search finds
  pub hit : (xs : List X) (i n : ℕ) → i < length xs → HoldsAt (λ y. nat_cmp (key y) n ≡ Equal) xs i → (x : X) × (slice_get xs i ≡ Some x) × (key x ≡ n)
  hit xs i n within equal =
      let at = there xs i within in
      (at.0, at.1, ranked (key at.0) n _ (sym (ap (λ y. nat_cmp (key y) n) (sym (get_or_from_slice_get xs i at.0 at.0 at.1)) ∙ equal at.0)))

  comparisons_rise : (xs : List X) → Up xs → (n : ℕ) → IsNonDecreasingBy (λ y. ordering_index (nat_cmp (key y) n)) xs
  comparisons_rise xs up n i j d le within = by (eqb i j) refl
    where
      by : (b : Bool) → eqb i j ≡ b → ordering_index (nat_cmp (key (get_or xs i d)) n) ≤ ordering_index (nat_cmp (key (get_or xs j d)) n)
      by true is = let e : i ≡ j = grind (arith, nat_tests) in subst (λ k. ordering_index (nat_cmp (key (get_or xs i d)) n) ≤ ordering_index (nat_cmp (key (get_or xs k d)) n)) e (omega arith)
      by false unlike =
          let lt : i < j = grind (arith, nat_tests) in
          let rise : key (get_or xs i d) < key (get_or xs j d) = up i j (get_or xs i d) (get_or xs j d) lt (slice_get-get_or xs i d (omega arith)) (slice_get-get_or xs j d within) in
          rising (key (get_or xs i d)) (key (get_or xs j d)) n rise

  -- what a search misses
  pub missed : (xs : List X) → Up xs → (i n : ℕ) → i ≤ length xs → IsBinarySearchResult (λ y. nat_cmp (key y) n) xs (Err i) → (j : ℕ) (y : X) → slice_get xs j ≡ Some y → key y ≢ n
  missed xs up i n within parted j y found is = by (nat_lt j i) refl
    where
      read : get_or xs j y ≡ y
      read = get_or_from_slice_get xs j y y found

      by : (b : Bool) → nat_lt j i ≡ b → ⊥
      by true lt =
          let below : key (get_or xs j y) < n = ranked (key (get_or xs j y)) n _ (sym ((parted (comparisons_rise xs up n)).0 j y (omega arith) (grind (arith, nat_tests)))) in
          let one : key (get_or xs j y) ≡ n = ap key read ∙ is in
          omega arith
      by false le =
          let last = slice_get_within xs j y found in
          let above : n < key (get_or xs j y) = ranked (key (get_or xs j y)) n _ (sym ((parted (comparisons_rise xs up n)).1 j y (grind (arith, nat_tests)) last)) in
          let one : key (get_or xs j y) ≡ n = ap key read ∙ is in
          omega arith
