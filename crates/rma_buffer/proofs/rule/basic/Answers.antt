use Rattle.std.proofs.Common.{⊎_elim}
use Rattle.rma_buffer.proofs.OperandLemmas.{basic_one, basic_not_empty, basic_not_mixed}
use Rattle.rma_buffer.proofs.rule.basic.Goals as goal

pub returns-in-One : goal.returns-in-One
returns-in-One c =
    basic_one c.args.types.now.origins c.args.operand.now.datatype c.in-None.ensures.value c.component.result c.in-One.basic c.in-One.is c.component.ensures

pub returns-in-Empty : goal.returns-in-Empty
returns-in-Empty c =
    let origins = c.args.types.now.origins in
    let id = c.args.operand.now.datatype in
    absurd (⊎_elim (λ e. basic_not_empty origins id c.in-None.ensures.value c.component.result e c.component.ensures)
    (λ e. basic_not_mixed origins id c.in-None.ensures.value c.component.result e c.component.ensures) c.in-Empty.is)
