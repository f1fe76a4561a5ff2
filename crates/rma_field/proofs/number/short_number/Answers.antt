use Rattle.std.proofs.Common.{◌<◌, length, Some, sym, ap, ◌∙◌, arith}
use Rattle.std.specs.Prelude.{pos}
use Rattle.std.proofs.lemmas.Bool.Decides.{nat_tests}
use Rattle.rma_field.proofs.DecimalLemmas.{number_digits}
use Rattle.rma_field.proofs.number.short_number.Goals as goal

pub returns-then-text-lt-FRONT : goal.returns-then-text-lt-FRONT
returns-then-text-lt-FRONT c below =
    let text = c.args.text.now in
    let some : 0 < length text = grind (arith, nat_tests, c.if-is_empty.ensures) in
    let read = c.with_rest.ensures below in
    number_digits text (some, read.0) ∙ ap (λ n. Some (pos n)) (sym read.1)

pub returns : goal.returns
returns c below =
    let text = c.args.text.now in
    let some : 0 < length text = grind (arith, nat_tests, c.if-is_empty.ensures) in
    let read = c.with_rest-2.ensures below in
    number_digits text (some, read.0) ∙ ap (λ n. Some (pos n)) (sym read.1)
