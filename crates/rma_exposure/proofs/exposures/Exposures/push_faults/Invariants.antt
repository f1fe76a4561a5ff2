use Rattle.std.proofs.Common.{◌≡◌, ◌++◌, take}
use Rattle.rma_run.specs.Run.{calls_of, by_rank}
use Rattle.rma_exposure.specs.Fault.{faults_at}
use Rattle.rma_exposure.proofs.exposures.Exposures.push_faults.Given as goal

-- the calls of the ranks before are judged
abbrev pub invariant-loop-rank : goal.invariant-loop-rank
invariant-loop-rank l = l.faults ≡ l.initial.faults ++ by_rank (faults_at l.side (calls_of l.ranks)) (take l.rank-index l.ranks)
