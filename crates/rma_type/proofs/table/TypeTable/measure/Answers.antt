use Rattle.std.proofs.Common.{sym, ◌∙◌}
use Rattle.rma_type.proofs.MakeLemmas.{IsMeasured_by, refusal_out}
use Rattle.rma_type.proofs.table.TypeTable.measure.Goals as goal

pub returns-then-is_in_space-clause-ok : goal.returns-then-is_in_space-clause-ok
returns-then-is_in_space-clause-ok c =
    IsMeasured_by _ c.args.constructor.now c.joined-summary.result c.joined-summary.ensures (sym c.too_many.ensures ∙ c.if-too_many.false) (sym c.large.ensures ∙ c.if-large.false)
    (sym c.is_in_space.ensures ∙ c.if-is_in_space.true)

pub returns-else-is_in_space-clause-fault : goal.returns-else-is_in_space-clause-fault
returns-else-is_in_space-clause-fault c =
    refusal_out _ c.args.constructor.now c.joined-summary.result c.joined-summary.ensures (sym c.too_many.ensures ∙ c.if-too_many.false) (sym c.is_in_space.ensures ∙ c.if-is_in_space.false)
