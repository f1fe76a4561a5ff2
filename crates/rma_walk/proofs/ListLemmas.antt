-- Elements of lists that grow at their end.
use Rattle.std.proofs.Common.{◌≡◌, ℕ, zero, suc, ◌<◌, ◌⊎◌, inl, inr, List, [], ◌∷◌, ◌++◌, length, get_or, replicate, Some, None, Option, Ok, Err, Result, refl, sym, ap, arith, ⊎_elim, below_more}
use Rattle.std.specs.Prelude.{Contains, All, slice_get, IfNone, IfOk, OnOk}
use Rattle.std.proofs.lemmas.Option.{none-some, same_Some, get_or_from_slice_get, slice_get_within}
use Rattle.std.proofs.lemmas.List.Elements.{All-nil, All-cons}

pub slice_get_front : {A : Type 0} (xs ys : List A) (k : ℕ) (y : A) → slice_get xs k ≡ Some y → slice_get (xs ++ ys) k ≡ Some y
slice_get_front [] ys k y is = absurd (none-some y is)
slice_get_front (x ∷ xs) ys zero y is = is
slice_get_front (x ∷ xs) ys (suc k) y is = slice_get_front xs ys k y is

pub slice_get_last : {A : Type 0} (xs : List A) (x : A) → slice_get (xs ++ x ∷ []) (length xs) ≡ Some x
slice_get_last [] x = refl
slice_get_last (y ∷ xs) x = slice_get_last xs x

pub slice_get_push : {A : Type 0} (xs : List A) (x : A) (k : ℕ) (y : A) → slice_get (xs ++ x ∷ []) k ≡ Some y → (slice_get xs k ≡ Some y) ⊎ ((k ≡ length xs) × (x ≡ y))
slice_get_push [] x zero y is = inr (refl, same_Some x y is)
slice_get_push [] x (suc k) y is = absurd (none-some y is)
slice_get_push (z ∷ xs) x zero y is = inl is
slice_get_push (z ∷ xs) x (suc k) y is =
    ⊎_elim (λ old. inl old) (λ (new : (k ≡ length xs) × (x ≡ y)). inr (ap suc new.0, new.1)) (slice_get_push xs x k y is)

pub contains_at : {A : Type 0} (xs : List A) (k : ℕ) (x : A) → slice_get xs k ≡ Some x → Contains xs x
contains_at xs k x is = (k, slice_get_within xs k x is, get_or_from_slice_get xs k x x is)

pub contains_cons : {A : Type 0} (y : A) (xs : List A) (x : A) → Contains xs x → Contains (y ∷ xs) x
contains_cons y xs x (k, lt, is) = (suc k, omega arith, is)

cons_cases_at : {A : Type 0} (y : A) (xs : List A) (x : A) (k : ℕ) → k < length (y ∷ xs) → get_or (y ∷ xs) k x ≡ x → (y ≡ x) ⊎ Contains xs x
cons_cases_at y xs x zero lt is = inl is
cons_cases_at y xs x (suc k) lt is = inr (k, omega arith, is)

pub contains_cons_cases : {A : Type 0} (y : A) (xs : List A) (x : A) → Contains (y ∷ xs) x → (y ≡ x) ⊎ Contains xs x
contains_cons_cases y xs x (k, lt, is) = cons_cases_at y xs x k lt is

pub contains_none : {A : Type 0} (x : A) → Contains [] x → ⊥
contains_none x (k, lt, is) = absurd (omega arith)

pub at_contains : {A : Type 0} (xs : List A) (x : A) → Contains xs x → (k : ℕ) × (slice_get xs k ≡ Some x)
at_contains [] x has = absurd (contains_none x has)
at_contains (y ∷ xs) x has =
    ⊎_elim
    (λ (here : y ≡ x). (0, ap Some here))
    (λ (later : Contains xs x). let found = at_contains xs x later in (suc found.0, found.1))
    (contains_cons_cases y xs x has)

pub first_is : {A : Type 0} (xs : List A) (x : A) → slice_get xs 0 ≡ Some x → (rest : List A) × (xs ≡ x ∷ rest)
first_is [] x is = absurd (none-some x is)
first_is (y ∷ xs) x is = (xs, ap (λ z. z ∷ xs) (same_Some y x is))

pub none_first : {A : Type 0} (xs : List A) → slice_get xs 0 ≡ None → xs ≡ []
none_first [] is = refl
none_first (x ∷ xs) is = absurd (none-some x (sym is))

pub none_later : {A : Type 0} (o : Option A) (P Q : Type 0) → IfNone o P → (P → Q) → IfNone o Q
none_later None P Q holds so = so holds
none_later (Some x) P Q holds so = holds

pub ok_later : {A E : Type 0} (r : Result A E) (P Q R : A → Type 0) → IfOk r P → IfOk r Q → ((x : A) → P x → Q x → R x) → IfOk r R
ok_later (Ok x) P Q R one two so = so x one two
ok_later (Err e) P Q R one two so = one

pub ok_both : {A E : Type 0} (r : Result A E) (P : Type 0) (Q : A → Type 0) → OnOk r P → IfOk r Q → IfOk r (λ x. P × Q x)
ok_both (Ok x) P Q one two = (one, two)
ok_both (Err e) P Q one two = one

pub on_ok_later : {A E : Type 0} (r : Result A E) (P : A → Type 0) (Q : Type 0) → IfOk r P → ((x : A) → P x → Q) → OnOk r Q
on_ok_later (Ok x) P Q one so = so x one
on_ok_later (Err e) P Q one so = one

pub on_ok_both : {A E : Type 0} (r : Result A E) (P Q R : Type 0) → OnOk r P → OnOk r Q → (P → Q → R) → OnOk r R
on_ok_both (Ok x) P Q R one two so = so one two
on_ok_both (Err e) P Q R one two so = one

pub replicate_at : {A : Type 0} (n i : ℕ) (x : A) → get_or (replicate n x) i x ≡ x
replicate_at zero i x = refl
replicate_at (suc n) zero x = refl
replicate_at (suc n) (suc i) x = replicate_at n i x

-- one thing holds of all elements, or another one of some
pub all_or_some : {A : Type 0} (P Q : A → Type 0) → ((x : A) → P x ⊎ Q x) → (xs : List A) → All P xs ⊎ ((x : A) × Contains xs x × Q x)
all_or_some P Q each [] = inl (All-nil P)
all_or_some P Q each (x ∷ xs) =
    ⊎_elim
    (λ here. ⊎_elim
    (λ rest. inl (All-cons P x xs here rest))
    (λ some. inr (some.0, contains_cons x xs some.0 some.1, some.2))
    (all_or_some P Q each xs))
    (λ here. inr (x, (0, omega arith, refl), here))
    (each x)

-- and of all numbers below one
pub below_or_some : (P Q : ℕ → Type 0) → ((k : ℕ) → P k ⊎ Q k) → (n : ℕ) → ((k : ℕ) → k < n → P k) ⊎ ((k : ℕ) × (k < n) × Q k)
below_or_some P Q each zero = inl (λ k lt. absurd (omega arith))
below_or_some P Q each (suc n) =
    ⊎_elim
    (λ (rest : (k : ℕ) → k < n → P k). ⊎_elim
    (λ here. inl (λ k lt. below_more P n rest here k (omega arith)))
    (λ here. inr (n, omega arith, here))
    (each n))
    (λ (some : (k : ℕ) × (k < n) × Q k). let lt = some.1 in inr (some.0, omega arith, some.2))
    (below_or_some P Q each n)
