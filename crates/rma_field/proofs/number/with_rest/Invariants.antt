use Rattle.std.proofs.Common.{◌≡◌, ◌+◌, take}
use Rattle.std.specs.Str.Parse.{digits_value, AllDigits}
use Rattle.rma_field.proofs.number.with_rest.Given as goal

abbrev pub invariant-loop-byte : goal.invariant-loop-byte
invariant-loop-byte l = record {
  value : l.value ≡ digits_value 10 (take (l.place + l.byte-index) l.text);
  digits : AllDigits 10 (take (l.place + l.byte-index) l.text);
}
