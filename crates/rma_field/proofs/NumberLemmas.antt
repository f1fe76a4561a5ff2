-- Numbers whose magnitude is cut off above the range of every field.
use Rattle.std.proofs.Common.{◌≡◌, ℕ, zero, suc, ◌+◌, ◌*◌, ◌<◌, ◌≤◌, min, Bool, true, false, Ok, Err, refl, ⊎_elim, ◌⊎◌, arith, le-leb, leb, ◌&&◌}
use Rattle.std.proofs.Math.Nat.{mul-le-mul_left, mul_comm}
use Rattle.std.proofs.lemmas.Bool.{cases_lt}
use Rattle.std.proofs.lemmas.Bool.Decides.{nat_tests}
use Rattle.rma_base.specs.declared.form_reason.FormReason.TheVariants.{OutOfRange}
use Rattle.rma_field.specs.Numbers.{signed, natural_within}

-- cutting off before another digit comes changes nothing
pub min_push : (v base digit cap : ℕ) → 0 < base → min (min v cap * base + digit) cap ≡ min (v * base + digit) cap
min_push v base digit cap some =
    ⊎_elim
    (λ (low : v < cap). let same : min v cap ≡ v = omega arith in rw same refl)
    (λ (high : cap ≤ v).
    let cut : min v cap ≡ cap = omega arith in
    let one : cap * 1 ≤ cap * base = mul-le-mul_left cap some in
    let grown : base * cap ≤ base * v = mul-le-mul_left base high in
    rw cut (omega (arith, one, grown, mul_comm base cap, mul_comm base v)))
    (cases_lt v cap)

module _ (low high cap : ℕ) (room : high < cap) where
  pub natural_within_below : (m n : ℕ) → n ≡ min m cap → 0 < n → natural_within low high (signed true m) ≡ Err OutOfRange
  natural_within_below zero n is some = absurd (omega arith)
  natural_within_below (suc m) n is some = refl

  test_inside : (m : ℕ) → low ≤ m → m ≤ high → (leb low m && leb m high) ≡ true
  test_inside m above below = rw (le-leb low m above) (le-leb m high below)

  test_outside : (m : ℕ) → (m < low) ⊎ (high < m) → (leb low m && leb m high) ≡ false
  test_outside m outside = ⊎_elim (λ (under : m < low). grind (arith, nat_tests)) (λ (over : high < m). grind (arith, nat_tests)) outside

  pub natural_within_inside : (negative : Bool) (m n : ℕ) → n ≡ min m cap → (negative ≡ true → n ≡ 0) → low ≤ n → n ≤ high
      → natural_within low high (signed negative m) ≡ Ok n
  natural_within_inside false m n is zero_if above below =
      let same : m ≡ n = omega arith in rw (same, test_inside n above below)
  natural_within_inside true zero n is zero_if above below =
      let same : 0 ≡ n = omega arith in rw (same, test_inside n above below)
  natural_within_inside true (suc m) n is zero_if above below = let none = zero_if refl in absurd (omega arith)

  pub natural_within_outside : (negative : Bool) (m n : ℕ) → n ≡ min m cap → (n < low) ⊎ (high < n)
      → natural_within low high (signed negative m) ≡ Err OutOfRange
  natural_within_outside false m n is outside =
      let far : (m < low) ⊎ (high < m) = ⊎_elim (λ (under : n < low). grind arith) (λ (over : high < n). grind arith) outside in
      rw (test_outside m far)
  natural_within_outside true zero n is outside =
      let same : n ≡ 0 = omega arith in rw (test_outside 0 (rw same at outside))
  natural_within_outside true (suc m) n is outside = refl
