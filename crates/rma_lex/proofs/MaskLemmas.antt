-- The lowest bit of a mask.
use Rattle.std.proofs.Common.{◌≡◌, ℕ, suc, ◌+◌, ◌-◌, ◌*◌, ◌/◌, ◌%◌, ◌^◌, ◌<◌, sym, ap, ◌∙◌, arith, bit_and, pow_pos, ⊎_elim}
use Rattle.std.specs.Int.{bit_at}
use Rattle.std.proofs.Math.Nat.{two-pow-succ, mod-lt}
use Rattle.std.proofs.lemmas.Nat.{shr_split}
use Rattle.std.proofs.lemmas.Bool.{cases_eq}
use Rattle.std.proofs.lemmas.Nat.Bits.{bit_at_and, bit_at-pow_same, bit_at-pow_other, bit_at_cat_low, bit_at_cat_high, bit_at_ones_above, same_from_bits_below}
use Rattle.rma_lex.specs.inside.Mask.{IsLowestBit, DropsBit}

module _ (mask low : ℕ) (lowest : IsLowestBit mask low) where
  -- what stands above the lowest bit
  abbrev high : ℕ
  high = mask / 2 ^ suc low

  same_bit : (k : ℕ) → k < suc low → bit_at (mask % 2 ^ suc low) k ≡ bit_at mask k
  same_bit k below = sym (bit_at_cat_low high (suc low) (mask % 2 ^ suc low) k below) ∙ ap (λ m. bit_at m k) (shr_split mask (suc low))

  rest_is_bit : mask % 2 ^ suc low ≡ 2 ^ low
  rest_is_bit =
      same_from_bits_below (suc low) (mask % 2 ^ suc low) (2 ^ low) (mod-lt mask (pow_pos (suc low))) (omega (arith, two-pow-succ low, pow_pos low))
      (λ k below. ⊎_elim (λ e. same_bit k below ∙ ap (bit_at mask) e ∙ lowest.set ∙ sym (ap (bit_at (2 ^ low)) e ∙ bit_at-pow_same low))
      (λ ne. same_bit k below ∙ lowest.below k (omega arith) ∙ sym (bit_at-pow_other low k ne)) (cases_eq k low))

  parts : high * 2 ^ suc low + 2 ^ low ≡ mask
  parts = ap (λ r. high * 2 ^ suc low + r) (sym rest_is_bit) ∙ shr_split mask (suc low)

  one_less : high * 2 ^ suc low + (2 ^ low - 1) ≡ mask - 1
  one_less = omega (arith, parts, pow_pos low)

  same_above : (k : ℕ) → low < k → bit_at (mask - 1) k ≡ bit_at mask k
  same_above k above =
      ap (λ m. bit_at m k) (sym one_less) ∙ bit_at_cat_high high (suc low) (2 ^ low - 1) k (omega (arith, two-pow-succ low, pow_pos low)) (omega arith)
      ∙ sym (bit_at_cat_high high (suc low) (2 ^ low) k (omega (arith, two-pow-succ low, pow_pos low)) (omega arith)) ∙ ap (λ m. bit_at m k) parts

  clear : bit_at (mask - 1) low ≡ 0
  clear = ap (λ m. bit_at m low) (sym one_less) ∙ bit_at_cat_low high (suc low) (2 ^ low - 1) low (omega arith) ∙ bit_at_ones_above low low (omega arith)

  -- the mask without its lowest bit
  pub DropsBit_lowest : DropsBit mask low (bit_and mask (mask - 1))
  DropsBit_lowest = record {
    dropped = omega (arith, bit_at_and mask (mask - 1) low, clear);
    kept = λ k ne. grind (arith, bit_at_and mask (mask - 1) k, lowest.below k, same_above k);
  }
