-- Pairs of a call that closes an epoch and the one that opens it, in the order of the former.
use Rattle.std.proofs.Common.{◌≡◌, ◌≢◌, ℕ, zero, suc, ◌<◌, ◌≤◌, cond, List, [], ◌∷◌, ◌++◌, length, get_or, nat_eq, Some, None, Ok, Err, refl, sym, ap, arith}
use Rattle.std.specs.Map.{lookup}
use Rattle.std.specs.Ordering.{nat_cmp, ordering_index}
use Rattle.std.specs.List.Sorted.{IsBinarySearchResult, IsNonDecreasingBy}
use Rattle.std.proofs.lemmas.Cmp.{ranked}
use Rattle.std.proofs.lemmas.List.Sorted.{IsNonDecreasingBy-from_default}
use Rattle.std.proofs.lemmas.Bool.Decides.{nat_tests}
use Rattle.std.proofs.lemmas.Grind.{common_steps}
use Rattle.rma_exposure.specs.inside.Epochs.{close_at, AreInOrder}

-- none of the closes before a place is this one
abbrev NotBefore : List (ℕ × ℕ) → ℕ → ℕ → Type 0
NotBefore pairs close i = (j : ℕ) → j < i → close_at pairs j ≢ close

not_in_rest : (x : ℕ × ℕ) (pairs : List (ℕ × ℕ)) (close i : ℕ) → NotBefore (x ∷ pairs) close (suc i) → NotBefore pairs close i
not_in_rest x pairs close i not j lt = not (suc j) (omega arith)

-- a close that stands nowhere is not found
nowhere : (pairs : List (ℕ × ℕ)) (close : ℕ) → NotBefore pairs close (length pairs) → lookup (nat_eq close) pairs ≡ None
nowhere [] close not = refl
nowhere (x ∷ pairs) close not = grind (arith, nat_tests, not 0 (omega arith), nowhere pairs close (not_in_rest x pairs close (length pairs) not))

-- the first that is the close is found
first_at : (pairs : List (ℕ × ℕ)) (close i : ℕ) → i < length pairs → close_at pairs i ≡ close → NotBefore pairs close i → lookup (nat_eq close) pairs ≡ Some (get_or pairs i (0, 0)).1
first_at [] close i within is not = absurd (omega arith)
first_at (x ∷ pairs) close zero within is not = grind (arith, nat_tests)
first_at (x ∷ pairs) close (suc i) within is not = grind (arith, nat_tests, not 0 (omega arith), first_at pairs close i (omega arith) is (not_in_rest x pairs close i not))

module _ (pairs : List (ℕ × ℕ)) (up : AreInOrder pairs) where
  -- each close is found
  found : (close i : ℕ) → i < length pairs → close_at pairs i ≡ close → lookup (nat_eq close) pairs ≡ Some (get_or pairs i (0, 0)).1
  found close i within is = first_at pairs close i within is (λ j lt same. omega (arith, up j i lt within))

  -- a search among them finds it, or that it stands nowhere
  comparisons_rise : (close : ℕ) → IsNonDecreasingBy (λ pair. ordering_index (nat_cmp pair.0 close)) pairs
  comparisons_rise close = IsNonDecreasingBy-from_default (λ pair. ordering_index (nat_cmp pair.0 close)) pairs (0, 0) (λ i j le within.
      let rise : close_at pairs i ≤ close_at pairs j = grind (arith, up i j, λ (same : i ≡ j). ap (close_at pairs) same) in
      grind (arith, nat_tests))

  pub found_by : (close i : ℕ) → i < length pairs → IsBinarySearchResult (λ pair. nat_cmp pair.0 close) pairs (Ok i) → lookup (nat_eq close) pairs ≡ Some (get_or pairs i (0, 0)).1
  found_by close i within equal = found close i within (ranked (close_at pairs i) close _ (sym (equal (0, 0))))

  pub missed_by : (close i : ℕ) → i ≤ length pairs → IsBinarySearchResult (λ pair. nat_cmp pair.0 close) pairs (Err i) → lookup (nat_eq close) pairs ≡ None
  missed_by close i within parted =
      let below : (j : ℕ) → j < i → close_at pairs j < close = λ j lt. ranked (close_at pairs j) close _ (sym ((parted (comparisons_rise close)).0 j (0, 0) (omega arith) lt)) in
      let above : (j : ℕ) → i ≤ j → j < length pairs → close < close_at pairs j = λ j le lt. ranked (close_at pairs j) close _ (sym ((parted (comparisons_rise close)).1 j (0, 0) le lt)) in
      nowhere pairs close (λ j lt same. grind (arith, below j, above j))

pub found_at : (pairs : List (ℕ × ℕ)) (i : ℕ) → AreInOrder pairs → i < length pairs → lookup (nat_eq (close_at pairs i)) pairs ≡ Some (get_or pairs i (0, 0)).1
found_at pairs i up within = found pairs up (close_at pairs i) i within refl

-- one more close, which none of the others is
pub found_pushed : (pairs : List (ℕ × ℕ)) (close opener number : ℕ) → lookup (nat_eq close) pairs ≡ None → lookup (nat_eq number) (pairs ++ (close, opener) ∷ []) ≡ cond (nat_eq close number) (Some opener) (lookup (nat_eq number) pairs)
found_pushed [] close opener number none = grind (arith, nat_tests)
found_pushed (x ∷ pairs) close opener number none = grind (arith, nat_tests, found_pushed pairs close opener number)

-- one more close, which the others are below
pub in_order_pushed : (pairs : List (ℕ × ℕ)) (close opener : ℕ) → AreInOrder pairs → ((i : ℕ) → i < length pairs → close_at pairs i < close) → AreInOrder (pairs ++ (close, opener) ∷ [])
in_order_pushed pairs close opener up below i j lt within = grind (arith, common_steps, up i j lt, below i)
