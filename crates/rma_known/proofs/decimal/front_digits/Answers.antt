use Rattle.std.proofs.Common.{◌≡◌, ℕ, List, ◌<◌, ◌^◌, length, take, true, sym, ◌∙◌, arith, get_or}
use Rattle.std.specs.Char.{digit_value, is_ascii_digit}
use Rattle.std.specs.Str.Parse.{digits_value, AllDigits}
use Rattle.std.proofs.lemmas.Int.Digits.{digits_value_more, digits_more}
use Rattle.std.proofs.lemmas.List.{length-take-le}
use Rattle.rma_field.proofs.DecimalLemmas.{decimal_value, decimal_value_low, digits_below}
use Rattle.rma_known.proofs.decimal.front_digits.Goals as goal

-- what stands before another digit leaves room for it
room : (text : List ℕ) (i : ℕ) → i < 15 → i < length text → AllDigits 10 (take i text) → digits_value 10 (take i text) < 10 ^ 14
room text i few more all = digits_below (take i text) 14 all (omega (arith, length-take-le i text (omega arith)))

pub overflow_mul-number : goal.overflow_mul-number
overflow_mul-number c =
    let text = c.args.text.now in
    let low = room text c.loop-i.i (omega (arith, c.loop-i-test.true, c.min-most.ensures)) (omega (arith, c.loop-i-test.true, c.min-most.ensures)) c.loop-i.invariant.digits in
    record { fits = omega (arith, low, c.loop-i.invariant.value) }

pub overflow_add-number : goal.overflow_add-number
overflow_add-number c =
    let text = c.args.text.now in
    let low = room text c.loop-i.i (omega (arith, c.loop-i-test.true, c.min-most.ensures)) (omega (arith, c.loop-i-test.true, c.min-most.ensures)) c.loop-i.invariant.digits in
    record { fits = omega (arith, low, c.loop-i.invariant.value, c.from.ensures) }

pub loop-i-preserved : goal.loop-i-preserved
loop-i-preserved c =
    let text = c.args.text.now in
    let i = c.loop-i.i in
    let byte = get_or text i 0 in
    let more : i < length text = omega (arith, c.loop-i-test.true, c.min-most.ensures) in
    let decimal : is_ascii_digit byte ≡ true = sym c.is_ascii_digit.ensures.value ∙ c.if-not-is_ascii_digit.false in
    let is : digit_value byte ≡ c.from.result = decimal_value byte decimal ∙ sym c.from.ensures in
    record {
      value = omega (arith, is, c.loop-i.invariant.value, digits_value_more 10 text i more);
      digits = digits_more 10 text i more c.loop-i.invariant.digits (decimal_value_low byte decimal);
    }
