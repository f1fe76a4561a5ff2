use Rattle.std.proofs.Common.{◌≡◌, true, sym, ◌∙◌, get_or}
use Rattle.std.specs.Char.{is_ascii_digit}
use Rattle.std.proofs.lemmas.Int.Digits.{digits_more}
use Rattle.rma_base.proofs.NameLemmas.{and_left, and_right}
use Rattle.rma_field.proofs.DecimalLemmas.{decimal_value_low}
use Rattle.rma_field.proofs.number.are_decimal.Goals as goal

pub loop-byte-preserved : goal.loop-byte-preserved
loop-byte-preserved c both =
    let text = c.args.text.now in
    let i = c.loop-byte.byte-index in
    let decimal : is_ascii_digit (get_or text i 0) ≡ true = sym c.is_ascii_digit-all.ensures.value ∙ and_right c.loop-byte.all _ both in
    digits_more 10 text i c.loop-byte-test.true (c.loop-byte.invariant (and_left c.loop-byte.all _ both)) (decimal_value_low (get_or text i 0) decimal)
