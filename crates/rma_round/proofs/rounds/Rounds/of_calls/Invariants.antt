use Rattle.std.proofs.Common.{take}
use Rattle.rma_run.specs.Run.{calls_of}
use Rattle.rma_round.specs.inside.Rounds.{Represents}
use Rattle.rma_round.proofs.rounds.Rounds.of_calls.Given as goal

-- the calls of the ranks before are taken
abbrev pub invariant-loop-rank : goal.invariant-loop-rank
invariant-loop-rank l = Represents (calls_of (take l.rank-index l.ranks)) l.rounds
