-- Lists and tests.
use Rattle.std.proofs.Common.{◌≡◌, ℕ, zero, suc, ◌+◌, ◌<◌, Bool, true, false, cond, ◌&&◌, List, [], ◌∷◌, ◌++◌, length, Some, slice_get, set, refl, ap, ◌∙◌, arith}
use Rattle.std.specs.Prelude.{count_by}
use Rattle.std.proofs.lemmas.Bool.{false≢true}
use Rattle.std.proofs.lemmas.Option.{slice_get_within, same_Some}
use Rattle.std.proofs.lemmas.List.Sums.{sum_by-cons}

pub both : (a b : Bool) → (a && b) ≡ true → (a ≡ true) × (b ≡ true)
both true b h = (refl, h)
both false b h = absurd (false≢true h)

module _ {X : Type 0} where
  -- the elements of a list that others follow
  pub get_before : (xs ys : List X) (i : ℕ) → i < length xs → slice_get (xs ++ ys) i ≡ slice_get xs i
  get_before [] ys i lt = absurd (omega arith)
  get_before (x ∷ xs) ys zero lt = refl
  get_before (x ∷ xs) ys (suc i) lt = get_before xs ys i (omega arith)

  -- the one that follows
  pub get_last : (xs : List X) (x : X) → slice_get (xs ++ x ∷ []) (length xs) ≡ Some x
  get_last [] x = refl
  get_last (y ∷ xs) x = get_last xs x

  -- how many pass, with one more before the others
  pub count_cons : (p : X → Bool) (x : X) (xs : List X) → count_by p (x ∷ xs) ≡ cond (p x) (suc (count_by p xs)) (count_by p xs)
  count_cons p x xs = sum_by-cons (λ (y : X). cond (p y) 1 0) x xs ∙ by (p x) (count_by p xs)
    where
      by : (b : Bool) (n : ℕ) → cond b 1 0 + n ≡ cond b (suc n) n
      by true n = omega arith
      by false n = omega arith

  -- those that a longer list has are these and the last
  pub in_push : (P : Type 0) (xs : List X) (x y : X) (i : ℕ) → slice_get (xs ++ x ∷ []) i ≡ Some y → (slice_get xs i ≡ Some y → P) → (i ≡ length xs → x ≡ y → P) → P
  in_push P [] x y zero at before last = last refl (cc)
  in_push P [] x y (suc i) at before last = absurd (cc)
  in_push P (z ∷ zs) x y zero at before last = before at
  in_push P (z ∷ zs) x y (suc i) at before last = in_push P zs x y i at before (λ is same. last (ap suc is) same)

  pub at_push : (xs : List X) (x : X) (i : ℕ) → i ≡ length xs → slice_get (xs ++ x ∷ []) i ≡ Some x
  at_push xs x i is = ap (slice_get (xs ++ x ∷ [])) is ∙ get_last xs x

  pub before_push : (xs : List X) (x y : X) (i : ℕ) → slice_get xs i ≡ Some y → slice_get (xs ++ x ∷ []) i ≡ Some y
  before_push xs x y i at = get_before xs (x ∷ []) i (slice_get_within xs i y at) ∙ at

  pub some_at : (xs : List X) (i : ℕ) → i < length xs → (x : X) × (slice_get xs i ≡ Some x)
  some_at [] i lt = absurd (omega arith)
  some_at (x ∷ xs) zero lt = (x, refl)
  some_at (x ∷ xs) (suc i) lt = some_at xs i (omega arith)

  -- those of a list where one is set are these and that one
  pub in_set : (P : Type 0) (xs : List X) (index : ℕ) (x y : X) (i : ℕ) → slice_get (set xs index x) i ≡ Some y → ((i ≡ index → ⊥) → slice_get xs i ≡ Some y → P) → (i ≡ index → x ≡ y → P) → P
  in_set P [] index x y i at before here = absurd (cc)
  in_set P (z ∷ zs) zero x y zero at before here = here refl (same_Some x y at)
  in_set P (z ∷ zs) zero x y (suc i) at before here = before (λ (same : suc i ≡ 0). omega arith) at
  in_set P (z ∷ zs) (suc index) x y zero at before here = before (λ (same : 0 ≡ suc index). omega arith) at
  in_set P (z ∷ zs) (suc index) x y (suc i) at before here = in_set P zs index x y i at (λ differ. before (λ (same : suc i ≡ suc index). differ (omega arith))) (λ is same. here (ap suc is) same)

  pub set_other : (xs : List X) (index : ℕ) (x : X) (i : ℕ) → (i ≡ index → ⊥) → slice_get (set xs index x) i ≡ slice_get xs i
  set_other [] index x i differ = refl
  set_other (z ∷ zs) zero x zero differ = absurd (differ refl)
  set_other (z ∷ zs) zero x (suc i) differ = refl
  set_other (z ∷ zs) (suc index) x zero differ = refl
  set_other (z ∷ zs) (suc index) x (suc i) differ = set_other zs index x i (λ same. differ (ap suc same))

  pub set_own : (xs : List X) (index : ℕ) (x y : X) → slice_get xs index ≡ Some y → slice_get (set xs index x) index ≡ Some x
  set_own [] index x y at = absurd (cc)
  set_own (z ∷ zs) zero x y at = refl
  set_own (z ∷ zs) (suc index) x y at = set_own zs index x y at
