-- The highest bit of a mask, and what stands behind the last blank of a line.
use Rattle.std.proofs.Common.{◌≡◌, ℕ, zero, suc, ◌+◌, ◌-◌, ◌^◌, ◌<◌, ◌≤◌, true, false, List, [], ◌∷◌, drop, length, refl, ap, ◌∙◌, arith, w64, ⊎_elim}
use Rattle.std.specs.Int.{bit_at, leading_zeros}
use Rattle.std.specs.List.{list_all}
use Rattle.std.proofs.Math.Nat.{two-pow-succ}
use Rattle.std.proofs.lemmas.Bool.{cases_Bool}
use Rattle.std.proofs.lemmas.Nat.{leading_top}
use Rattle.std.proofs.lemmas.Nat.Bits.{bit_at_above, bit_at_cat_high, bit_at-zero}
use Rattle.memchr.specs.Find.{Nowhere, Passes, is_byte2}
use Rattle.rma_lex.specs.inside.Blank.{blank_at}
use Rattle.rma_lex.specs.inside.Mask.{IsHighestBit, Marks}
use Rattle.rma_lex.specs.Field.{is_blank, is_field}

pub IsHighestBit_leading : (mask : ℕ) → 0 < mask → mask < 2 ^ 64 → (leading_zeros w64 mask < 64) × IsHighestBit mask (63 - leading_zeros w64 mask)
IsHighestBit_leading mask some fits =
    let top = leading_top 64 mask some fits in
    let j = top.0 in
    let there : leading_zeros w64 mask + suc j ≡ 64 = top.1 in
    let low : 2 ^ j ≤ mask = top.2 in
    let rest : mask - 2 ^ j < 2 ^ j = omega (arith, two-pow-succ j, top.3) in
    let same : j - j ≡ 0 = omega arith in
    let set : bit_at mask j ≡ 1 = ap (λ m. bit_at m j) (omega (arith, low)) ∙ bit_at_cat_high 1 j (mask - 2 ^ j) j rest (omega arith) ∙ ap (bit_at 1) same in
    let is : 63 - leading_zeros w64 mask ≡ j = omega (arith, there) in (
      omega (arith, there),
      record {
        set = ap (bit_at mask) is ∙ set;
        above = λ k over. bit_at_above mask (suc j) k top.3 (omega (arith, is, over));
      },
    )

-- where no byte from a place on is a blank, what stands there is a field
pub field_from : (place : ℕ) (line : List ℕ) → ((k : ℕ) → place ≤ k → k < length line → blank_at line k ≡ false) → list_all is_field (drop place line) ≡ true
field_from zero [] none = refl
field_from (suc place) [] none = refl
field_from zero (byte ∷ line) none =
    let head : is_blank byte ≡ false = none 0 (omega arith) (omega arith) in
    rw head (field_from zero line (λ k low high. none (suc k) (omega arith) (omega arith)))
field_from (suc place) (byte ∷ line) none = field_from place line (λ k low high. none (suc k) (omega arith) (omega arith))

-- the highest blank that is marked is the last one
module _ (line : List ℕ) (from mask : ℕ) (marks : Marks (blank_at line) from mask from (length line)) (within : from ≤ length line) where
  pub marked : (high : ℕ) → IsHighestBit mask high → (from + high < length line) × (blank_at line (from + high) ≡ true)
  marked high highest = grind (arith, marks high, highest.set)

  no_blank : (k : ℕ) → from ≤ k → k < length line → bit_at mask (k - from) ≡ 0 → blank_at line k ≡ false
  no_blank k low high clear =
      let at : from + (k - from) ≡ k = omega arith in
      ⊎_elim (λ (blank : blank_at line k ≡ true). absurd (grind (arith, marks (k - from), clear, ap (blank_at line) at, blank))) (λ none. none) (cases_Bool (blank_at line k))

  pub behind : (high : ℕ) → IsHighestBit mask high → list_all is_field (drop (from + high + 1) line) ≡ true
  behind high highest = field_from (from + high + 1) line (λ k low over. no_blank k (omega arith) over (highest.above (k - from) (omega arith)))

  pub all_behind : mask ≡ 0 → list_all is_field (drop from line) ≡ true
  all_behind none = field_from from line (λ k low over. no_blank k low over (ap (λ m. bit_at m (k - from)) none ∙ bit_at-zero (k - from)))

-- where no blank was found from a place on, what stands there is a field
pub field_behind : (place : ℕ) (line : List ℕ) → Nowhere (Passes (is_byte2 32 9) line) place (length line) → list_all is_field (drop place line) ≡ true
field_behind zero [] none = refl
field_behind (suc place) [] none = refl
field_behind zero (byte ∷ line) none =
    ⊎_elim
    (λ (blank : is_blank byte ≡ true). absurd (none 0 (omega arith) (omega arith) blank))
    (λ (field : is_blank byte ≡ false). rw field (field_behind zero line (λ k low high blank. none (suc k) (omega arith) (omega arith) blank)))
    (cases_Bool (is_blank byte))
field_behind (suc place) (byte ∷ line) none = field_behind place line (λ k low high blank. none (suc k) (omega arith) (omega arith) blank)
