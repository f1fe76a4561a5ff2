-- Places that pass a test, as the bits of a mask.
use Rattle.std.proofs.Common.{◌≡◌, ◌↔◌, ℕ, ◌+◌, ◌-◌, ◌*◌, ◌/◌, ◌%◌, ◌^◌, ◌<◌, ◌≤◌, Bool, true, false, List, length, map, get_or, sym, ap, ◌∙◌, arith, ⊎_elim, bit_or, pow_pos, w64}
use Rattle.std.specs.Int.{bit_at}
use Rattle.std.specs.Simd.Lanes.{mask_l, chunk}
use Rattle.std.proofs.Math.Nat.{div-add-mod, mod-lt}
use Rattle.std.proofs.lemmas.Bool.{cases_lt, cases_eq}
use Rattle.std.proofs.lemmas.List.{length-map, get_or_past, get_or-map}
use Rattle.std.proofs.lemmas.Nat.Bits.{bit_at_or, bit_at-lt, bit_at-zero, bit_at_above, bit_at_cat_low, bit_at_cat_high, bit_at_set_same, bit_at_set_other, ones_shl, bit_at_mask_inside, bit_at_mask_below, bit_at_mask_above}
use Rattle.std.proofs.lemmas.Simd.{length-chunk, get_or-chunk, bit_mask_l}
use Rattle.rma_lex.specs.inside.Mask.{Marks}

-- the mask of a test of the lanes of a load
pub Marks_lanes : (test : ℕ → Bool) (d : ℕ) (line : List ℕ) (from n : ℕ) → from + n ≤ length line
    → Marks (λ at. test (get_or line at d)) from (mask_l (map test (chunk from n line))) from (from + n)
Marks_lanes test d line from n within k =
    let lanes = chunk from n line in
    let long = length-chunk from n line within in
    let reads = bit_mask_l (map test lanes) k in
    ⊎_elim (λ (below : k < n). let at = get_or-map test lanes k d false (omega arith) ∙ ap test (get_or-chunk from n line k d below) in grind (arith, reads, at))
    (λ (past : n ≤ k). let none = get_or_past (map test lanes) k false (omega (arith, length-map lanes test)) in grind (arith, reads, none)) (cases_lt k n)

module _ (mask by k : ℕ) (short : k < 64) where
  kept : bit_at (mask * 2 ^ by % 2 ^ 64) k ≡ bit_at (mask * 2 ^ by) k
  kept =
      sym (bit_at_cat_low (mask * 2 ^ by / 2 ^ 64) 64 (mask * 2 ^ by % 2 ^ 64) k short) ∙ ap (λ m. bit_at m k) (omega (arith, div-add-mod (mask * 2 ^ by) (2 ^ 64)))

  pub bit_at_shl_high : by ≤ k → bit_at (mask * 2 ^ by % 2 ^ 64) k ≡ bit_at mask (k - by)
  bit_at_shl_high high = kept ∙ ap (λ m. bit_at m k) (omega arith) ∙ bit_at_cat_high mask by 0 k (pow_pos by) high

  pub bit_at_shl_low : k < by → bit_at (mask * 2 ^ by % 2 ^ 64) k ≡ 0
  bit_at_shl_low low = kept ∙ ap (λ m. bit_at m k) (omega arith) ∙ bit_at_cat_low mask by 0 k low ∙ bit_at-zero k

-- the bits of `MAX << n`
pub ones_from : (n k : ℕ) → n ≤ 64 → (bit_at ((2 ^ 64 - 1) * 2 ^ n % 2 ^ 64) k ≡ 1) ↔ ((n ≤ k) × (k < 64))
ones_from n k within = rw (ones_shl 64 n within) (grind (arith, bit_at_mask_inside n 64 k, bit_at_mask_below n 64 k, bit_at_mask_above n 64 k))

-- marks that are moved to the beginning
pub Marks_shl : (test : ℕ → Bool) (mask from to : ℕ) → Marks test from mask from to → to ≤ 64 → Marks test 0 (mask * 2 ^ from % 2 ^ 64) from to
Marks_shl test mask from to marks short k = ⊎_elim
    (λ (small : k < 64). ⊎_elim (λ (below : k < from). grind (arith, bit_at_shl_low mask from k small below))
    (λ (above : from ≤ k). let there : from + (k - from) ≡ k = omega arith in grind (arith, bit_at_shl_high mask from k small above, marks (k - from), ap test there))
    (cases_lt k from))
    (λ (large : 64 ≤ k). grind (arith, bit_at_above (mask * 2 ^ from % 2 ^ 64) 64 k (mod-lt (mask * 2 ^ from) (pow_pos 64)) large)) (cases_lt k 64)

-- marks of two spans, where the second begins in the first or after it
pub Marks_or : (test : ℕ → Bool) (base one other a b c d : ℕ) → Marks test base one a b → Marks test base other c d → a ≤ c → c ≤ b → b ≤ d → Marks test base (bit_or one other) a d
Marks_or test base one other a b c d ones others ac cb bd k = grind (arith, bit_at_or one other k, ones k, others k, bit_at-lt one k, bit_at-lt other k)

-- one place more, which passes or fails
module _ (test : ℕ → Bool) (base mask k at to : ℕ) (marks : Marks test base mask base at) (is : at ≡ base + k) (next : to ≡ at + 1) where
  pub Marks_more : k < 64 → test at ≡ true → Marks test base (bit_or mask (1 * 2 ^ k % 2 ^ 64)) base to
  Marks_more short passes j = ⊎_elim
      (λ (e : j ≡ k). let same = ap (bit_at (bit_or mask (1 * 2 ^ k % 2 ^ 64))) e ∙ bit_at_set_same w64 mask k short in let here = ap (λ i. test (base + i)) e ∙ sym (ap test is) in grind (arith, same, here))
      (λ ne. grind (arith, bit_at_set_other w64 mask k short j ne, marks j)) (cases_eq j k)

  pub Marks_skip : test at ≡ false → Marks test base mask base to
  Marks_skip fails j = ⊎_elim (λ (e : j ≡ k). let here = ap (λ i. test (base + i)) e ∙ sym (ap test is) in grind (arith, here, marks j)) (λ ne. grind (arith, marks j)) (cases_eq j k)
