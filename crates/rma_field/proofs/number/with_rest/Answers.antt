use Rattle.std.proofs.Common.{◌≡◌, ℕ, List, ◌+◌, ◌*◌, ◌<◌, ◌≤◌, ◌^◌, length, drop, take, true, sym, ap, ◌-◌, ◌∙◌, arith, get_or, subst}
use Rattle.std.specs.Char.{digit_value, is_ascii_digit}
use Rattle.std.specs.Str.Parse.{digits_value, AllDigits}
use Rattle.std.proofs.lemmas.Int.Digits.{digits_value_more, digits_more}
use Rattle.std.proofs.lemmas.List.{get_or-drop, length-drop, length-take-le, take_all}
use Rattle.rma_field.proofs.DecimalLemmas.{decimal_value, decimal_value_low, digits_below}
use Rattle.rma_field.proofs.number.with_rest.Goals as goal

-- what stands before another digit leaves room for it
room : (text : List ℕ) (i : ℕ) → length text ≤ 17 → i < length text → AllDigits 10 (take i text) → digits_value 10 (take i text) < 10 ^ 16
room text i few more all = digits_below (take i text) 16 all (omega (arith, length-take-le i text (omega arith)))

pub overflow_mul-value : goal.overflow_mul-value
overflow_mul-value c =
    let text = c.args.text.now in
    let place = c.args.place + c.loop-byte.byte-index in
    let more : place < length text = omega (arith, c.loop-byte-test.true, length-drop c.args.place text) in
    let low = room text place c.requires.few more c.loop-byte.invariant.digits in
    record { fits = omega (arith, low, c.loop-byte.invariant.value) }

pub overflow_add-value : goal.overflow_add-value
overflow_add-value c =
    let text = c.args.text.now in
    let place = c.args.place + c.loop-byte.byte-index in
    let more : place < length text = omega (arith, c.loop-byte-test.true, length-drop c.args.place text) in
    let low = room text place c.requires.few more c.loop-byte.invariant.digits in
    record { fits = omega (arith, low, c.loop-byte.invariant.value, c.from.ensures) }

pub loop-byte-preserved : goal.loop-byte-preserved
loop-byte-preserved c =
    let text = c.args.text.now in
    let i = c.loop-byte.byte-index in
    let place = c.args.place + i in
    let byte = get_or text place 0 in
    let more : place < length text = omega (arith, c.loop-byte-test.true, length-drop c.args.place text) in
    let rest = drop c.args.place text in
    let whole : take (length text - c.args.place) rest ≡ rest = take_all (length text - c.args.place) rest (omega (arith, length-drop c.args.place text)) in
    let same : get_or (take (length text - c.args.place) rest) i 0 ≡ byte = ap (λ them. get_or them i 0) whole ∙ get_or-drop c.args.place text i 0 in
    let decimal : is_ascii_digit byte ≡ true = ap is_ascii_digit (sym same) ∙ sym c.is_ascii_digit.ensures.value ∙ c.if-not-is_ascii_digit.false in
    let low : digit_value byte < 10 = decimal_value_low byte decimal in
    let is : digit_value byte ≡ c.from.result = decimal_value byte decimal ∙ ap (λ b. b - 48) (sym same) ∙ sym c.from.ensures in
    let next : place + 1 ≡ c.args.place + (i + 1) = omega arith in
    let grown : c.loop-byte.value * 10 + c.from.result ≡ digits_value 10 (take (place + 1) text) = omega (arith, is, c.loop-byte.invariant.value, digits_value_more 10 text place more) in
    record {
      value = subst (λ k. c.loop-byte.value * 10 + c.from.result ≡ digits_value 10 (take k text)) next grown;
      digits = subst (λ k. AllDigits 10 (take k text)) next (digits_more 10 text place more c.loop-byte.invariant.digits low);
    }
