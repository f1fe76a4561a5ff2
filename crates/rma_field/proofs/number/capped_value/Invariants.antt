use Rattle.std.proofs.Common.{◌≡◌, min, take}
use Rattle.std.specs.Str.Parse.{digits_value}
use Rattle.rma_field.specs.declared.number.TheConstants.{CAP}
use Rattle.rma_field.proofs.number.capped_value.Given as goal

abbrev pub invariant-loop-byte : goal.invariant-loop-byte
invariant-loop-byte l = l.value ≡ min (digits_value l.base (take l.byte-index l.text)) CAP
