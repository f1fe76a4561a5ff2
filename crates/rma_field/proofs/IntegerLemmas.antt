-- Numbers that may be below 0: their range, and reading one back that was written in decimal digits.
use Rattle.std.proofs.Common.{◌≡◌, ℕ, ℤ, ◌^◌, ◌<◌, true, false, List, Option, Some, None, Ok, refl, subst, ⊎_elim, arith, leb, ltb}
use Rattle.std.specs.Prelude.{pos, negsuc}
use Rattle.std.specs.Fmt.{signed_decimal}
use Rattle.std.proofs.lemmas.Bool.{cases_Bool, leb-true, ltb-true, le-leb, lt-ltb}
use Rattle.rma_field.specs.Integers.{IsBetween, integer_of, integer_read, integer_within}
use Rattle.rma_field.specs.Numbers.{number}
use Rattle.rma_field.proofs.DecimalLemmas.{number_decimal, number_minus}

integer_within_between : (low high : ℕ) (z read : ℤ) → integer_within low high z ≡ Ok read → IsBetween low high read
integer_within_between low high (pos n) read is =
    ⊎_elim
    (λ (within : leb n high ≡ true). let same : pos n ≡ read = let it = rw within at is in cc it in subst (IsBetween low high) same (leb-true n high within))
    (λ (outside : leb n high ≡ false). absurd (let bad = rw outside at is in cc bad))
    (cases_Bool (leb n high))
integer_within_between low high (negsuc n) read is =
    ⊎_elim
    (λ (within : ltb n low ≡ true). let same : negsuc n ≡ read = let it = rw within at is in cc it in subst (IsBetween low high) same (ltb-true n low within))
    (λ (outside : ltb n low ≡ false). absurd (let bad = rw outside at is in cc bad))
    (cases_Bool (ltb n low))

integer_read_between : (low high : ℕ) (found : Option ℤ) (read : ℤ) → integer_read low high found ≡ Ok read → IsBetween low high read
integer_read_between low high None read is = absurd (cc is)
integer_read_between low high (Some z) read is = integer_within_between low high z read is

-- what a field stands for is in the range
pub integer_between : (low high : ℕ) (text : List ℕ) (z : ℤ) → integer_of low high text ≡ Ok z → IsBetween low high z
integer_between low high text z is = integer_read_between low high (number text) z is

-- a number in the range is read back
pub integer_decimal : (low high : ℕ) (z : ℤ) → low < 2 ^ 64 → high < 2 ^ 64 → IsBetween low high z → integer_of low high (signed_decimal z) ≡ Ok z
integer_decimal low high (pos n) small large to = rw (number_decimal n (omega arith), le-leb n high to) refl
integer_decimal low high (negsuc n) small large from = rw (number_minus n (omega arith), lt-ltb n low from) refl
