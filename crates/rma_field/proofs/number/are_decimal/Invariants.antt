use Rattle.std.proofs.Common.{◌≡◌, take, true}
use Rattle.std.specs.Str.Parse.{AllDigits}
use Rattle.rma_field.proofs.number.are_decimal.Given as goal

abbrev pub invariant-loop-byte : goal.invariant-loop-byte
invariant-loop-byte l = l.all ≡ true → AllDigits 10 (take l.byte-index l.text)
