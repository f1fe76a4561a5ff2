-- The numbers of those of a rank's calls that meet a test.
use Rattle.std.proofs.Common.{◌≡◌, ℕ, suc, ◌+◌, Bool, true, false, cond, ◌∷◌, ◌++◌, List, [], length, refl, ap, ◌∙◌, arith}
use Rattle.std.specs.List.Sorted.{IsNonDecreasing}
use Rattle.std.proofs.lemmas.List.Sorted.{IsNonDecreasingBy-from_default}
use Rattle.rma_call.specs.Call.{Call}
use Rattle.rma_run.proofs.PositionLemmas.{Rises, AreFrom, from_cons, from_rest, rises_cons, never_falls}
use Rattle.rma_completion.specs.inside.Kept.{numbers_from, numbers}

cond_put : (b : Bool) (n : ℕ) (r t : List ℕ) → cond b (n ∷ (r ++ t)) (r ++ t) ≡ cond b (n ∷ r) r ++ t
cond_put true n r t = refl
cond_put false n r t = refl

module _ (test : Call → Bool) where
  numbers_from_push : (n : ℕ) (calls : List Call) (call : Call) →
      numbers_from test n (calls ++ call ∷ []) ≡ numbers_from test n calls ++ cond (test call) ((n + length calls) ∷ []) []
  numbers_from_push n [] call = ap (λ k. cond (test call) (k ∷ []) []) (let e : n ≡ n + 0 = omega arith in e)
  numbers_from_push n (x ∷ xs) call =
      ap (λ rest. cond (test x) (n ∷ rest) rest) (numbers_from_push (n + 1) xs call)
      ∙ cond_put (test x) n (numbers_from test (n + 1) xs) (cond (test call) ((n + 1 + length xs) ∷ []) [])
      ∙ ap (λ k. numbers_from test n (x ∷ xs) ++ cond (test call) (k ∷ []) []) (let e : n + 1 + length xs ≡ n + suc (length xs) = omega arith in e)

  -- one more call
  pub numbers_push : (calls : List Call) (call : Call) → numbers test (calls ++ call ∷ []) ≡ numbers test calls ++ cond (test call) (length calls ∷ []) []
  numbers_push calls call =
      numbers_from_push 0 calls call
      ∙ ap (λ k. numbers test calls ++ cond (test call) (k ∷ []) []) (let e : 0 + length calls ≡ length calls = omega arith in e)

  are_from : (n : ℕ) (calls : List Call) → AreFrom n (numbers_from test n calls)
  are_from n [] = λ k lt. absurd (omega arith)
  are_from n (c ∷ cs) = by (test c) (are_from (n + 1) cs)
    where
      by : (b : Bool) → AreFrom (n + 1) (numbers_from test (n + 1) cs) → AreFrom n (cond b (n ∷ numbers_from test (n + 1) cs) (numbers_from test (n + 1) cs))
      by true from = from_cons n (numbers_from test (n + 1) cs) from
      by false from = from_rest n (numbers_from test (n + 1) cs) from

  numbers_rise : (n : ℕ) (calls : List Call) → Rises (numbers_from test n calls)
  numbers_rise n [] = λ i j lt within. absurd (omega arith)
  numbers_rise n (c ∷ cs) = by (test c) (numbers_rise (n + 1) cs)
    where
      by : (b : Bool) → Rises (numbers_from test (n + 1) cs) → Rises (cond b (n ∷ numbers_from test (n + 1) cs) (numbers_from test (n + 1) cs))
      by true up = rises_cons n (numbers_from test (n + 1) cs) (are_from (n + 1) cs) up
      by false up = up

  -- they ascend
  pub ascend : (calls : List Call) → IsNonDecreasing (numbers test calls)
  ascend calls = IsNonDecreasingBy-from_default (λ n. n) (numbers test calls) 0 (never_falls (numbers test calls) (numbers_rise 0 calls))
