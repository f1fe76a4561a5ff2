-- Reading a number back that was written in decimal digits.
use Rattle.std.proofs.Common.{◌≡◌, ℕ, suc, ◌-◌, ◌^◌, ◌<◌, ◌≤◌, Bool, true, false, ◌&&◌, List, [], ◌∷◌, length, Some, Ok, refl, sym, ap, ◌∙◌, ⊎_elim, arith, lit≤, eqb, leb, not}
use Rattle.std.specs.Prelude.{decimal, nat_eq, codes, pos, negsuc, option_map}
use Rattle.std.specs.Char.{digit_value, is_ascii_digit, is_digit}
use Rattle.std.specs.Int.{IsInRange}
use Rattle.std.specs.List.{list_all, starts_with}
use Rattle.std.specs.Str.Parse.{digits_value, IsNumeral, AllDigits}
use Rattle.std.proofs.lemmas.Bool.{lt-ltb, le-leb, ne_eqb, eqb-true, cases_Bool, false≢true}
use Rattle.std.proofs.lemmas.Bool.Decides.{nat_tests}
use Rattle.std.proofs.lemmas.Int.Digits.{digits_value-lt}
use Rattle.std.proofs.Math.Nat.{pow-le-pow_right}
use Rattle.std.proofs.lemmas.Fmt.{decimal_is_IsNumeral}
use Rattle.rma_base.proofs.NameLemmas.{and_left, and_right}
use Rattle.rma_field.specs.Numbers.{magnitude, number, natural, signed}

-- a decimal digit
abbrev pub is_decimal : ℕ → Bool
is_decimal byte = leb 48 byte && leb byte 57

pub other_byte : (other byte : ℕ) → is_decimal other ≡ false → is_decimal byte ≡ true → eqb other byte ≡ false
other_byte other byte differs decimal =
    ⊎_elim
    (λ (same : eqb other byte ≡ true). absurd (false≢true (sym differs ∙ ap is_decimal (eqb-true other byte same) ∙ decimal)))
    (λ (apart : eqb other byte ≡ false). apart)
    (cases_Bool (eqb other byte))

and_false : (b : Bool) → (b && false) ≡ false
and_false true = refl
and_false false = refl

decimal_digit : (byte : ℕ) → digit_value byte < 10 → is_decimal byte ≡ true
decimal_digit byte low = grind (arith, nat_tests)

-- what a decimal digit stands for
pub decimal_value : (byte : ℕ) → is_ascii_digit byte ≡ true → digit_value byte ≡ byte - 48
decimal_value byte is = grind (arith, nat_tests)

pub decimal_value_low : (byte : ℕ) → is_ascii_digit byte ≡ true → digit_value byte < 10
decimal_value_low byte is = grind (arith, nat_tests)

pub value_in_range : (byte : ℕ) → IsInRange 48 57 byte → digit_value byte ≡ byte - 48
value_in_range byte inside = grind (arith, nat_tests)

all_decimal : (digits : List ℕ) → AllDigits 10 digits → list_all is_decimal digits ≡ true
all_decimal [] all = refl
all_decimal (byte ∷ digits) all = rw (decimal_digit byte all.0, all_decimal digits all.1)

all_digits : (digits : List ℕ) → AllDigits 10 digits → list_all (λ c. is_digit c 10) digits ≡ true
all_digits [] all = refl
all_digits (byte ∷ digits) all = rw (lt-ltb (digit_value byte) 10 all.0, all_digits digits all.1)

-- so many digits write a number below that power
pub digits_below : (digits : List ℕ) (k : ℕ) → AllDigits 10 digits → length digits ≤ k → digits_value 10 digits < 10 ^ k
digits_below digits k all few = omega (arith, digits_value-lt 10 digits all, pow-le-pow_right {n = 10} (lit≤ tt) few)

-- decimal digits have no sign and no `0x` in front
unsigned : (digits : List ℕ) → list_all is_decimal digits ≡ true → starts_with nat_eq digits (codes "-") ≡ false
unsigned [] all = refl
unsigned (byte ∷ digits) all = rw (other_byte 45 byte refl (and_left (is_decimal byte) _ all)) refl

not_hexadecimal : (digits : List ℕ) → list_all is_decimal digits ≡ true → starts_with nat_eq digits (codes "0x") ≡ false
not_hexadecimal [] all = refl
not_hexadecimal (byte ∷ []) all = and_false (eqb 48 byte)
not_hexadecimal (byte ∷ next ∷ digits) all =
    rw (other_byte 120 next refl (and_left (is_decimal next) _ (and_right (is_decimal byte) _ all))) (and_false (eqb 48 byte))

some_digits : (digits : List ℕ) → 0 < length digits → not (eqb (length digits) 0) ≡ true
some_digits digits some = rw (ne_eqb (length digits) 0 (λ none. absurd (omega (arith, none, some)))) refl

pub number_digits : (digits : List ℕ) → IsNumeral 10 digits → number digits ≡ Some (pos (digits_value 10 digits))
number_digits digits (some, all) =
    let decimals : list_all is_decimal digits ≡ true = all_decimal digits all in
    rw (unsigned digits decimals, not_hexadecimal digits decimals, some_digits digits some, all_digits digits all) refl

-- the decimal digits of a number are one or more, and stand for it
module _ (n : ℕ) (low : n < 2 ^ 64) where
  pub some_decimal : 0 < length (decimal n)
  some_decimal = (decimal_is_IsNumeral n low).0.0

  pub decimal_decimal : list_all is_decimal (decimal n) ≡ true
  decimal_decimal = all_decimal (decimal n) (decimal_is_IsNumeral n low).0.1

  pub number_decimal : number (decimal n) ≡ Some (pos n)
  number_decimal = number_digits (decimal n) (decimal_is_IsNumeral n low).0 ∙ ap (λ m. Some (pos m)) (decimal_is_IsNumeral n low).1

magnitude_digits : (digits : List ℕ) → IsNumeral 10 digits → magnitude digits ≡ Some (digits_value 10 digits)
magnitude_digits digits (some, all) =
    let decimals : list_all is_decimal digits ≡ true = all_decimal digits all in
    rw (not_hexadecimal digits decimals, some_digits digits some, all_digits digits all) refl

-- so do they behind a `-`
pub number_minus : (n : ℕ) → suc n < 2 ^ 64 → number (45 ∷ decimal (suc n)) ≡ Some (negsuc n)
number_minus n low =
    let read : magnitude (decimal (suc n)) ≡ Some (suc n) = magnitude_digits (decimal (suc n)) (decimal_is_IsNumeral (suc n) low).0 ∙ ap Some (decimal_is_IsNumeral (suc n) low).1 in
    ap (option_map (signed true)) read

pub natural_decimal : (low high n : ℕ) → n < 2 ^ 64 → low ≤ n → n ≤ high → natural low high (decimal n) ≡ Ok n
natural_decimal low high n small from to = rw (number_decimal n small, le-leb low n from, le-leb n high to) refl
