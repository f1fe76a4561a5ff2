use Rattle.std.proofs.Common.{Some, sym, ap, ◌∙◌}
use Rattle.std.proofs.lemmas.Option.{none-some, same_Some}
use Rattle.rma_link.specs.declared.meet.Member.{Member}
use Rattle.rma_assert.proofs.updates.report_of.Goals as goal

pub report_at-requires-clause-waits : goal.report_at-requires-clause-waits
report_at-requires-clause-waits c = λ other. (
  λ same. (c.opening_of.ensures other).0 (c.in-Some.is ∙ ap Some same),
  λ waits. same_Some c.in-Some.opening other (sym c.in-Some.is ∙ (c.opening_of.ensures other).1 waits),
)

pub returns-in-None : goal.returns-in-None
returns-in-None c = λ found. (
  λ is. absurd (none-some found is),
  λ (number, up). let opening : Member = record { rank = found.rank; call = number } in absurd (none-some opening (sym c.in-None.is ∙ (c.opening_of.ensures opening).1 up.waits)),
)
