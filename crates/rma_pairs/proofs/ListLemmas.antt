-- A list that ascends is given by its members.
use Rattle.std.proofs.Common.{◌≡◌, ◌<◌, ℕ, suc, List, [], ◌∷◌, length, Some, slice_get, refl, sym, subst, ◌∙◌, arith}
use Rattle.std.specs.Prelude.{Contains}
use Rattle.std.proofs.lemmas.Option.{slice_get_read}
use Rattle.rma_run.proofs.ContainLemmas.{first_or_later, has_first, has_later, has_none}

module _ {X : Type 0} (Before : X → X → Type 0) (asymmetric : (x y : X) → Before x y → Before y x → ⊥) where
  -- each element comes before all that follow it
  abbrev pub Ascends : List X → Type 0
  Ascends list = (i j : ℕ) (x y : X) → i < j → slice_get list i ≡ Some x → slice_get list j ≡ Some y → Before x y

  -- what the one list has the other has too
  abbrev pub IsWithin : List X → List X → Type 0
  IsWithin xs ys = (x : X) → Contains xs x → Contains ys x

  -- the first comes before each of the others
  first_before : (x : X) (xs : List X) → Ascends (x ∷ xs) → (y : X) → Contains xs y → Before x y
  first_before x xs ascend y (k, less, at) = ascend 0 (suc k) x y (omega arith) refl (slice_get_read xs (length xs) k y refl less (sym at))

  later_ascend : (x : X) (xs : List X) → Ascends (x ∷ xs) → Ascends xs
  later_ascend x xs ascend = λ i j y z less here there. ascend (suc i) (suc j) y z (omega arith) here there

  -- two lists that ascend have one first element, if each has that of the other
  same_first : (x y : X) (xs ys : List X) → Ascends (x ∷ xs) → Ascends (y ∷ ys) → Contains (y ∷ ys) x → Contains (x ∷ xs) y → x ≡ y
  same_first x y xs ys one two has_x has_y =
      first_or_later y x ys
      (λ same. sym same)
      (λ later. first_or_later x y xs (λ same. same) (λ behind. absurd (asymmetric x y (first_before x xs one y behind) (first_before y ys two x later))) has_y)
      has_x

  -- without their first element, they have the same members still
  later_within : (x y : X) (xs ys : List X) → Ascends (x ∷ xs) → x ≡ y → IsWithin (x ∷ xs) (y ∷ ys) → IsWithin xs ys
  later_within x y xs ys ascend same within z has =
      first_or_later y z ys
      (λ first.
      let before : Before x x = subst (Before x) (sym (same ∙ first)) (first_before x xs ascend z has) in
      absurd (asymmetric x x before before))
      (λ later. later)
      (within z (has_later x z xs has))

  -- two lists that ascend and have the same members are equal
  pub one_list : (xs ys : List X) → Ascends xs → Ascends ys → IsWithin xs ys → IsWithin ys xs → xs ≡ ys
  one_list [] [] one two there back = refl
  one_list [] (y ∷ ys) one two there back = has_none y (back y (has_first y ys))
  one_list (x ∷ xs) [] one two there back = has_none x (there x (has_first x xs))
  one_list (x ∷ xs) (y ∷ ys) one two there back =
      let same = same_first x y xs ys one two (there x (has_first x xs)) (back y (has_first y ys)) in
      let rest = one_list xs ys (later_ascend x xs one) (later_ascend y ys two) (later_within x y xs ys one same there) (later_within y x ys xs two (sym same) back) in
      λ k. same k ∷ rest k
