use Rattle.std.proofs.Common.{map}
use Rattle.rma_gen.specs.TrialLogs.{NoneLeft, lefts}
use Rattle.rma_gen.specs.inside.Parts.{tape_at}
use Rattle.rma_gen.proofs.trial_logs.first_left.Given as goal

-- nothing is left of the logs so far
abbrev pub invariant-loop-rank : goal.invariant-loop-rank
invariant-loop-rank l = NoneLeft (lefts (map (tape_at l.trial) l.logs)) l.from l.rank
