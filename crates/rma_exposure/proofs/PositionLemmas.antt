-- The numbers of the calls that open epochs rise.
use Rattle.std.proofs.Common.{ℕ, ◌+◌, Bool, true, false, cond, ◌∷◌, List, [], arith}
use Rattle.rma_call.specs.Call.{Call}
use Rattle.rma_run.proofs.PositionLemmas.{Rises, AreFrom, from_cons, from_rest, rises_cons}
use Rattle.rma_exposure.specs.declared.side.Side.{Side}
use Rattle.rma_exposure.specs.Opening.{opens_with}
use Rattle.rma_exposure.specs.Matching.{numbers_from, numbers}

module _ (side : Side) (window : List ℕ) (other : ℕ) where
  are_from : (n : ℕ) (calls : List Call) → AreFrom n (numbers_from side window other n calls)
  are_from n [] = λ k lt. absurd (omega arith)
  are_from n (c ∷ cs) = by (opens_with side window other c) (are_from (n + 1) cs)
    where
      by : (b : Bool) → AreFrom (n + 1) (numbers_from side window other (n + 1) cs) → AreFrom n (cond b (n ∷ numbers_from side window other (n + 1) cs) (numbers_from side window other (n + 1) cs))
      by true from = from_cons n (numbers_from side window other (n + 1) cs) from
      by false from = from_rest n (numbers_from side window other (n + 1) cs) from

  numbers_rise : (n : ℕ) (calls : List Call) → Rises (numbers_from side window other n calls)
  numbers_rise n [] = λ i j lt within. absurd (omega arith)
  numbers_rise n (c ∷ cs) = by (opens_with side window other c) (numbers_rise (n + 1) cs)
    where
      by : (b : Bool) → Rises (numbers_from side window other (n + 1) cs) → Rises (cond b (n ∷ numbers_from side window other (n + 1) cs) (numbers_from side window other (n + 1) cs))
      by true up = rises_cons n (numbers_from side window other (n + 1) cs) (are_from (n + 1) cs) up
      by false up = up

  -- the numbers of a rank's calls rise
  pub rises : (calls : List Call) → Rises (numbers side window other calls)
  rises calls = numbers_rise 0 calls
