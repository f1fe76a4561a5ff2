use Rattle.std.proofs.Common.{sym, ◌∙◌}
use Rattle.rma_command.proofs.NumberLemmas.{number_is, no_number_of_many, no_number_of_plus}
use Rattle.rma_command.proofs.number.number_of.Goals.{then-has_plus-via-then-has_plus, then-has_plus-via-else-has_plus+then-word-gt-DIGITS}
use Rattle.rma_command.proofs.number.number_of.Goals as goal

pub returns-then-has_plus : goal.returns-then-has_plus
returns-then-has_plus c =
    elim c.then-has_plus.branch [
      | then-has_plus-via-then-has_plus w ↦ no_number_of_plus c.args.word.now (rw c.as_bytes.ensures.value at (sym c.has_plus.ensures ∙ w.if-has_plus.true))
      | then-has_plus-via-else-has_plus+then-word-gt-DIGITS w ↦ no_number_of_many c.args.word.now w.if-word-gt-DIGITS.true
    ]

pub returns : goal.returns
returns c =
    let plain = sym c.has_plus.ensures ∙ c.if-has_plus.false in
    c.ok.ensures.value ∙ number_is c.args.word.now c.parse.result (rw c.as_bytes.ensures.value at plain) c.if-word-gt-DIGITS.false c.parse.ensures.value.0
