use Rattle.std.proofs.Common.{[], get_or, arith}
use Rattle.std.proofs.lemmas.Option.{slice_get-get_or}
use Rattle.rma_round.specs.inside.Rounds.{names_in}
use Rattle.rma_round.proofs.StepLemmas.{every_name_in_step}
use Rattle.rma_round.proofs.kind_rounds.KindRounds.are_in_step.Goals as goal

pub returns-then-not-branch-clause-differ : goal.returns-then-not-branch-clause-differ
returns-then-not-branch-clause-differ c = λ no kind calls are.
    let names = names_in c.args.self.now in
    let i = c.loop-i.i in
    let name = get_or names i [] in
    let at = slice_get-get_or names i [] (omega (arith, c.loop-i-test.true, c.len-i-end.ensures.count)) in
    (name, c.in_ok-are_in_step.ensures.differ c.if-not-branch.true kind name calls (c.rounds.ensures kind calls are name at))

pub returns-clause-step : goal.returns-clause-step
returns-clause-step c = λ yes kind calls are.
    every_name_in_step kind calls (names_in c.args.self.now) (c.len-i-end.ensures.each kind calls are)
    (λ j name below at. c.loop-i.invariant kind calls are j name (omega (arith, below, c.loop-i-test.false, c.len-i-end.ensures.count)) at)
