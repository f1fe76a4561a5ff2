use Rattle.std.proofs.Common.{List, sym, subst, ◌∙◌}
use Rattle.std.proofs.lemmas.Option.{same_Some}
use Rattle.rma_run.specs.Run.{calls_of}
use Rattle.rma_concurrent.specs.inside.Places.{HasMore}
use Rattle.rma_concurrent.proofs.ListLemmas.{more_none}
use Rattle.rma_assert.specs.declared.assertion.BrokenAssertion.{BrokenAssertion}
use Rattle.rma_assert.specs.Updates.{IsByUpdate}
use Rattle.rma_assert.proofs.GatherLemmas.{pushed}
use Rattle.rma_assert.proofs.updates.add_of_access.Goals as goal

pub returns-in_ok-push : goal.returns-in_ok-push
returns-in_ok-push c =
    let report = c.in-Some.report in
    let found = c.args.found.now.items in
    subst (HasMore (IsByUpdate (calls_of c.args.ranks.now) c.args.access.now) found) (sym {A = List BrokenAssertion} c.in_ok-push.ensures.items)
    (pushed found report ((c.report_of.ensures report).0 c.in-Some.is) (λ x is. same_Some report x (sym c.in-Some.is ∙ (c.report_of.ensures x).1 is)))

pub returns-in_default : goal.returns-in_default
returns-in_default c = more_none c.args.found.now.items (λ x is. c.in_default.not-Some x ((c.report_of.ensures x).1 is))
