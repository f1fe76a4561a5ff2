use Rattle.std.proofs.Common.{take}
use Rattle.std.specs.Str.Parse.{digits_value}
use Rattle.std.proofs.lemmas.Int.Digits.{digits_value_more}
use Rattle.rma_field.specs.declared.number.TheConstants.{CAP}
use Rattle.rma_field.proofs.NumberLemmas.{min_push}
use Rattle.rma_field.proofs.number.capped_value.Goals as goal

pub loop-byte-preserved : goal.loop-byte-preserved
loop-byte-preserved c =
    let base = c.args.base in
    let text = c.args.text.now in
    let i = c.loop-byte.byte-index in
    let value = digits_value base (take i text) in
    rw (digits_value_more base text i c.loop-byte-test.true, ← min_push value base _ CAP c.requires.low, ← c.loop-byte.invariant, ← c.digit.ensures.value)
    c.with_digit-value.ensures
