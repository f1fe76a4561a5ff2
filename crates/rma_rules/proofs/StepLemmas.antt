-- Runs that start a number of whole elements apart.
use Rattle.std.proofs.Common.{◌≡◌, ℕ, ◌*◌, ◌/◌, ◌%◌, ◌<◌, ◌⊎◌, ◌↔◌, inl, inr, sym, arith, ◌∙◌, ap, add-zero}
use Rattle.std.specs.Prelude.{pos, ◌+ℤ◌, ◌<ℤ◌}
use Rattle.std.specs.Int.{int_max}
use Rattle.std.proofs.lemmas.Int.{ints, clamps}
use Rattle.std.proofs.lemmas.Nat.{mod-mul-add, div-add-mod'}
use Rattle.rma_bytes.specs.declared.run.Run.{Run}
use Rattle.rma_bytes.specs.Runs.{end_of}
use Rattle.rma_rules.specs.inside.Step.{AreInStep, RunsMeet}

times_mod : (k n : ℕ) → 0 < n → (k * n) % n ≡ 0
times_mod k n some = ap (λ m. m % n) (sym (add-zero (k * n))) ∙ mod-mul-add k n 0 some

whole : (d n : ℕ) → d % n ≡ 0 → d ≡ (d / n) * n
whole d n none = let parts = div-add-mod' d n in omega (arith, parts, none)

-- they do where the distance of their starts is a multiple of the size
pub in_step : (size d : ℕ) (x y : Run) → 0 < size → (x.start ≡ y.start +ℤ pos d) ⊎ (y.start ≡ x.start +ℤ pos d) → (d % size ≡ 0) ↔ AreInStep size x y
in_step size d x y some far = (
  λ none. let is = whole d size none in (d / size, by_far is far),
  λ steps.
      let k = steps.0 in
      let multiple = times_mod k size some in
      let zero_mod : 0 % size ≡ 0 = omega arith in
      grind (arith, ints, steps.1, far, multiple, zero_mod),
)
  where
    by_far : d ≡ (d / size) * size → (x.start ≡ y.start +ℤ pos d) ⊎ (y.start ≡ x.start +ℤ pos d)
        → (x.start ≡ y.start +ℤ pos ((d / size) * size)) ⊎ (y.start ≡ x.start +ℤ pos ((d / size) * size))
    by_far is (inl up) = inl (up ∙ ap (λ n. y.start +ℤ pos n) is)
    by_far is (inr down) = inr (down ∙ ap (λ n. x.start +ℤ pos n) is)

-- two runs that are not empty share a byte where each starts before the other ends
pub meet : (x y : Run) → 0 < x.len → 0 < y.len → ((x.start <ℤ end_of y) × (y.start <ℤ end_of x)) ↔ RunsMeet x y
meet x y some_x some_y = (
  λ both. (int_max x.start y.start, (omega (arith, ints, clamps), omega (arith, ints, clamps)), (omega (arith, ints, clamps), omega (arith, ints, clamps))),
  λ shared. (omega (arith, ints, shared.1, shared.2), omega (arith, ints, shared.1, shared.2)),
)
