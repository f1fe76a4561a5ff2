-- How reports are gathered number by number, and place by place.
use Rattle.std.proofs.Common.{◌≡◌, ◌+◌, ◌<◌, ◌≤◌, ℕ, List, [], ◌∷◌, ◌++◌, length, Some, slice_get, slice_index_or, refl, inl, inr, subst, arith, ⊎_elim}
use Rattle.std.specs.Prelude.{Contains, Err, Ok, OnOk, Result}
use Rattle.std.proofs.lemmas.List.Elements.{Contains-append_left, Contains-push, Contains-push_cases}
use Rattle.std.proofs.lemmas.Bool.{cases_lt}
use Rattle.std.proofs.lemmas.Option.{slice_get_read, slice_get_within}
use Rattle.rma_concurrent.specs.inside.Places.{HasMore}
use Rattle.rma_concurrent.proofs.ListLemmas.{contained, more_more, more_none, more_same, place_of}
use Rattle.rma_assert.specs.inside.Gathered.{IsAtPlace, IsUpTo}

module _ {X : Type 0} (Is : ℕ → X → Type 0) where
  -- no number is below none
  pub up_to_none : (xs : List X) → HasMore (IsUpTo Is 0) xs xs
  up_to_none xs = more_none xs (λ x is. let below = is.below in omega arith)

  -- one number more
  pub up_to_more : (i : ℕ) (a b c : List X) → HasMore (IsUpTo Is i) a b → HasMore (Is i) b c → HasMore (IsUpTo Is (i + 1)) a c
  up_to_more i a b c one two =
      more_more a b c one two
      (λ x found.
      ⊎_elim
      (λ (before : found.number < i). inl (record { number = found.number; below = before; is = found.is }))
      (λ (last : i ≤ found.number).
      let below = found.below in
      let same : found.number ≡ i = omega arith in
      inr (subst (λ n. Is n x) same found.is))
      (cases_lt found.number i))
      (λ x found. let below = found.below in record { number = found.number; below = omega arith; is = found.is })
      (λ x is. record { number = i; below = omega arith; is = is })

  -- all numbers for which something is found
  pub up_to_all : {Q : X → Type 0} (count : ℕ) (a b : List X) → ((x : X) (n : ℕ) → n < count → Is n x → Q x) → ((x : X) → Q x → (n : ℕ) × (n < count) × Is n x) → HasMore (IsUpTo Is count) a b → HasMore Q a b
  up_to_all count a b there back more =
      more_same a b more (λ x found. there x found.number found.below found.is) (λ x q. let one = back x q in record { number = one.0; below = one.1; is = one.2 })

module _ {E X : Type 0} (Is : E → X → Type 0) (list : List E) where
  -- what is found at a place is what is found of the element there
  pub at_place : (i : ℕ) (e : E) (a b : List X) → slice_get list i ≡ Some e → HasMore (Is e) a b → HasMore (IsAtPlace Is list i) a b
  at_place i e a b there more =
      more_same a b more
      (λ x is. record { element = e; there = there; is = is })
      (λ x found. let again = found.there in let same : found.element ≡ e = cc in subst (λ own. Is own x) same found.is)

  -- what is found at all places is what is found of all elements
  pub at_all : (count : ℕ) (a b : List X) → length list ≤ count → HasMore (IsUpTo (IsAtPlace Is list) count) a b → HasMore (λ x. (e : E) × Contains list e × Is e x) a b
  at_all count a b all more =
      up_to_all (IsAtPlace Is list) count a b
      (λ x n below found. (found.element, contained list n found.element found.there, found.is))
      (λ x found.
      let place = place_of list found.0 found.1 in
      let within = slice_get_within list place.0 found.0 place.1 in
      (place.0, omega arith, record { element = found.0; there = place.1; is = found.2 }))
      more

-- one more that is found, and no other one
pub pushed : {X : Type 0} {P : X → Type 0} (a : List X) (y : X) → P y → ((x : X) → P x → y ≡ x) → HasMore P a (a ++ y ∷ [])
pushed {X} {P} a y is one = record {
  only = λ x has. ⊎_elim (λ before. inl before) (λ (same : y ≡ x). inr (subst P same is)) (Contains-push_cases a y x has);
  kept = λ x has. Contains-append_left a (y ∷ []) x has;
  all = λ x p. subst (Contains (a ++ y ∷ [])) (one x p) (Contains-push a y);
}

pub on_ok : {T E : Type 0} {P Q : Type 0} (r : Result T E) → (P → Q) → OnOk r P → OnOk r Q
on_ok (Ok x) f p = f p
on_ok (Err e) f p = tt

-- what a loop over a slice has in hand
pub item_is : {X : Type 0} (xs : List X) (i : ℕ) (x : X) → i < length xs → x ≡ slice_index_or xs i x → slice_get xs i ≡ Some x
item_is xs i x within is = slice_get_read xs (length xs) i x refl within is
