-- What a field means as a number that may be below 0 (the log format of this product).
use Rattle.std.specs.Prelude.{ℕ, ◌<◌, ◌≤◌, ℤ, pos, negsuc, nat_le, nat_lt, List, Option, Some, None, Result, Ok, Err, if◌then◌else◌}
use Rattle.rma_base.specs.declared.form_reason.FormReason.{FormReason}
use Rattle.rma_base.specs.declared.form_reason.FormReason.TheVariants.{BadNumber, OutOfRange}
use Rattle.rma_field.specs.Numbers.{number}

-- the number is from minus `low` to `high`
abbrev pub IsBetween : ℕ → ℕ → ℤ → Type 0
IsBetween low high (pos n) = n ≤ high
IsBetween low high (negsuc n) = n < low

-- a number from minus `low` to `high`
abbrev pub integer_within : ℕ → ℕ → ℤ → Result ℤ FormReason
integer_within low high (pos n) = if nat_le n high then Ok (pos n) else Err OutOfRange
integer_within low high (negsuc n) = if nat_lt n low then Ok (negsuc n) else Err OutOfRange

abbrev pub integer_read : ℕ → ℕ → Option ℤ → Result ℤ FormReason
integer_read low high None = Err BadNumber
integer_read low high (Some z) = integer_within low high z

-- what a field stands for that should be a number from minus `low` to `high`
abbrev pub integer_of : ℕ → ℕ → List ℕ → Result ℤ FormReason
integer_of low high text = integer_read low high (number text)
