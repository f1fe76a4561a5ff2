use Rattle.std.proofs.Common.{◌≡◌, take}
use Rattle.std.specs.Str.Parse.{AllDigits, digits_value}
use Rattle.rma_known.proofs.decimal.front_digits.Given as goal

-- the bytes before are digits, and write the number
abbrev pub invariant-loop-i : goal.invariant-loop-i
invariant-loop-i l = record {
  value : l.number ≡ digits_value 10 (take l.i l.text);
  digits : AllDigits 10 (take l.i l.text);
}
