use Rattle.std.proofs.Common.{sym, ◌∙◌, ap, is_some, rules}
use Rattle.rma_type.proofs.Words.{IsErrorOf, refusal}
use Rattle.rma_type.proofs.MakeLemmas.{error_unknown, refusal_in_use, refusal_negative, refusal_broken}
use Rattle.rma_type.proofs.table.TypeTable.check.Goals as goal

pub returns-in_err-old_types-clause-fault : goal.returns-in_err-old_types-clause-fault
returns-in_err-old_types-clause-fault c =
    let told : IsErrorOf (refusal c.args.self.now c.args.name.now c.args.constructor.now) c.in_err-old_types.field-0.0 =
    error_unknown c.args.self.now c.args.name.now c.args.constructor.now c.in_err-old_types.field-0.0 c.in_err-old_types.ensures.unknown in
    search rules

pub returns-then-is_some-clause-fault : goal.returns-then-is_some-clause-fault
returns-then-is_some-clause-fault c =
    refusal_in_use c.args.self.now c.args.name.now c.args.constructor.now c.in_ok-old_types.ensures.live (ap is_some (sym c.find.ensures.value) ∙ sym c.is_some.ensures ∙ c.if-is_some.true)

pub returns-then-negative-clause-fault : goal.returns-then-negative-clause-fault
returns-then-negative-clause-fault c =
    refusal_negative c.args.self.now c.args.name.now c.args.constructor.now c.in_ok-old_types.ensures.live (ap is_some (sym c.find.ensures.value) ∙ sym c.is_some.ensures ∙ c.if-is_some.false)
    (sym c.negative.ensures ∙ c.if-negative.true)

pub returns-then-broken-clause-fault : goal.returns-then-broken-clause-fault
returns-then-broken-clause-fault c =
    refusal_broken c.args.self.now c.args.name.now c.args.constructor.now c.in_ok-old_types.ensures.live (ap is_some (sym c.find.ensures.value) ∙ sym c.is_some.ensures ∙ c.if-is_some.false)
    (sym c.negative.ensures ∙ c.if-negative.false) (sym c.broken.ensures ∙ c.if-broken.true)
