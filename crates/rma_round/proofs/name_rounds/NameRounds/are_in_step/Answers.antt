use Rattle.std.proofs.Common.{subst}
use Rattle.rma_round.specs.inside.Step.{AreTheSame, RowsDiffer}
use Rattle.rma_round.proofs.StepLemmas.{differ_on, in_step_on}
use Rattle.rma_round.proofs.name_rounds.NameRounds.are_in_step.Goals as goal

pub returns-clause-step : goal.returns-clause-step
returns-clause-step c = λ yes.
    in_step_on c.args.self.now c.in_ok-rows.rows c.in_ok-rows.ensures (subst AreTheSame c.as_slice.ensures (c.are_the_same.ensures.same yes))

pub returns-clause-differ : goal.returns-clause-differ
returns-clause-differ c = λ no kind name calls on.
    differ_on c.args.self.now c.in_ok-rows.rows c.in_ok-rows.ensures kind name calls on (subst RowsDiffer c.as_slice.ensures (c.are_the_same.ensures.differ no))
