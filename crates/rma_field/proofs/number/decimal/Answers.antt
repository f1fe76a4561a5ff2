use Rattle.std.proofs.Common.{◌≡◌, ◌+◌, ◌*◌, arith, lit≤, get_or, take}
use Rattle.std.specs.Str.Parse.{digits_value}
use Rattle.std.proofs.lemmas.Int.Digits.{digits_value_more}
use Rattle.std.proofs.lemmas.Str.Parse.{digit_at, digits_value-take-le}
use Rattle.rma_field.proofs.DecimalLemmas.{digits_below, value_in_range}
use Rattle.rma_field.proofs.number.decimal.Goals as goal

pub overflow_mul-value : goal.overflow_mul-value
overflow_mul-value c =
    let text = c.args.text.now in
    let i = c.loop-byte.byte-index in
    let low = digits_value-take-le 10 text (i + 1) (lit≤ tt) in
    record { fits = omega (arith, low, digits_below text 17 c.requires.digits c.requires.few, digits_value_more 10 text i c.loop-byte-test.true, c.loop-byte.invariant) }

pub overflow_sub-byte : goal.overflow_sub-byte
overflow_sub-byte c = omega (arith, digit_at c.args.text.now c.loop-byte.byte-index c.requires.digits c.loop-byte-test.true)

pub overflow_add-value : goal.overflow_add-value
overflow_add-value c =
    let text = c.args.text.now in
    let i = c.loop-byte.byte-index in
    let low = digits_value-take-le 10 text (i + 1) (lit≤ tt) in
    let is = value_in_range (get_or text i 0) (digit_at text i c.requires.digits c.loop-byte-test.true) in
    record { fits = omega (arith, low, is, c.from.ensures, digits_below text 17 c.requires.digits c.requires.few, digits_value_more 10 text i c.loop-byte-test.true, c.loop-byte.invariant) }

pub loop-byte-preserved : goal.loop-byte-preserved
loop-byte-preserved c =
    let text = c.args.text.now in
    let i = c.loop-byte.byte-index in
    let is = value_in_range (get_or text i 0) (digit_at text i c.requires.digits c.loop-byte-test.true) in
    let grown : c.loop-byte.value * 10 + c.from.result ≡ digits_value 10 (take (i + 1) text) = omega (arith, is, c.from.ensures, digits_value_more 10 text i c.loop-byte-test.true, c.loop-byte.invariant) in
    grown
