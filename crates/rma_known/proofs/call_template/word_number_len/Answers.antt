use Rattle.std.proofs.Common.{take, refl}
use Rattle.rma_known.specs.declared.call_form.Part.TheVariants.{Number}
use Rattle.rma_known.proofs.AlikeLemmas.{part_word}
use Rattle.rma_known.proofs.call_template.word_number_len.Goals as goal

pub returns-then-takes_number-clause-taken : goal.returns-then-takes_number-clause-taken
returns-then-takes_number-clause-taken c =
    let taken = c.if-takes_number.ensures refl in
    (taken.0, part_word (Number c.args.limit) taken.0 (take c.word_len-len.result c.args.text.now) c.word_len-len.ensures.word taken.1, taken.2)
