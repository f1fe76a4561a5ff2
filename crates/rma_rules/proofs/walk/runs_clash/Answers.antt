use Rattle.std.proofs.Common.{arith}
use Rattle.rma_rules.specs.inside.Step.{RunsClash}
use Rattle.rma_rules.proofs.walk.runs_clash.Goals as goal

pub returns-then-runs_meet : goal.returns-then-runs_meet
unfolding RunsClash
returns-then-runs_meet c = rw c.in-Some.is (
  λ test. (c.runs_meet.ensures.0 c.if-runs_meet.true, λ steps. let yes = c.are_in_step.ensures.1 steps in grind arith),
  λ clash. let no = clash.1 in grind (arith, c.are_in_step.ensures),
)

pub returns-else-runs_meet : goal.returns-else-runs_meet
unfolding RunsClash
returns-else-runs_meet c = (λ test. absurd (let no = c.if-runs_meet.false in grind arith), λ clash. c.runs_meet.ensures.1 clash.0)

pub returns-in-None : goal.returns-in-None
unfolding RunsClash
returns-in-None c = (λ test. rw c.in-None.is (c.runs_meet-in-None.ensures.0 test, tt), λ clash. c.runs_meet-in-None.ensures.1 clash.0)
