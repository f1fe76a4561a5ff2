-- The last step at or before a position.
use Rattle.std.proofs.Common.{◌≡◌, ℕ, ◌-◌, ◌<◌, ◌≤◌, true, false, leb, List, length, get_or, Some, None, ap, arith, ⊎_elim}
use Rattle.std.specs.List.{AllWithin}
use Rattle.std.specs.List.Sorted.{IsNonDecreasingBy}
use Rattle.std.proofs.lemmas.Bool.{cases_lt, leb-true, leb-false}
use Rattle.std.proofs.lemmas.List.{get_or_default}
use Rattle.std.proofs.lemmas.List.Elements.{Contains-get_or}
use Rattle.rma_clock.specs.declared.step.Step.{Step}
use Rattle.rma_clock.specs.inside.Table.{IsLastStep}

pub no_step : (steps : List Step) (pos n : ℕ) → n ≡ 0 → AllWithin (λ s. leb s.pos pos ≡ false) steps n (length steps) → IsLastStep steps pos None
no_step steps pos n none after k d lt = leb-false (get_or steps k d).pos pos (after k d (omega arith) lt)

pub one_step : (steps : List Step) (pos n : ℕ) (d : Step) → IsNonDecreasingBy (λ s. s.pos) steps → 0 < n → n ≤ length steps
    → AllWithin (λ s. leb s.pos pos ≡ true) steps 0 n → AllWithin (λ s. leb s.pos pos ≡ false) steps n (length steps) → IsLastStep steps pos (Some (get_or steps (n - 1) d))
one_step steps pos n d sorted some le before after =
    let there : n - 1 < length steps = omega arith in (
      Contains-get_or steps (n - 1) d there,
      leb-true (get_or steps (n - 1) d).pos pos (before (n - 1) d (omega arith) (omega arith)),
      λ k e lt upto. ⊎_elim
          (λ (first : k < n).
          let rise : (get_or steps k e).pos ≤ (get_or steps (n - 1) e).pos = sorted k (n - 1) e (omega arith) there in
          let same : (get_or steps (n - 1) e).pos ≡ (get_or steps (n - 1) d).pos = ap (λ (s : Step). s.pos) (get_or_default steps (n - 1) e d there) in
          omega arith)
          (λ (last : n ≤ k). let past = leb-false (get_or steps k e).pos pos (after k e last lt) in absurd (omega arith))
          (cases_lt k n),
    )
