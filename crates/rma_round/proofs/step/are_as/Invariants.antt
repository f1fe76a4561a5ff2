use Rattle.std.proofs.Common.{take}
use Rattle.std.specs.Prelude.{All}
use Rattle.rma_round.specs.inside.Step.{IsAs}
use Rattle.rma_round.proofs.step.are_as.Given as goal

-- the ranks so far
abbrev pub invariant-loop-i : goal.invariant-loop-i
invariant-loop-i l = All (IsAs l.numbers) (take l.i l.rows)
