use Rattle.std.proofs.Common.{◌≡◌, ℕ, List, ◌++◌}
use Rattle.std.specs.List.{flat_map}
use Rattle.rma_call.specs.Call.{Call}
use Rattle.rma_run.specs.Run.{by_number}
use Rattle.rma_exposure.specs.Fault.{faults_at}
use Rattle.rma_exposure.specs.inside.Epochs.{Represents}
use Rattle.rma_exposure.proofs.WalkLemmas.{had_at}
use Rattle.rma_exposure.proofs.exposures.Exposures.push_rank_faults.Given as goal

-- the faults of the openings before, and those of the others, are those of all calls
abbrev pub invariant-loop-number : goal.invariant-loop-number
invariant-loop-number l = (calls : ℕ → List Call) → Represents calls l.self
    → l.faults ++ flat_map (λ e. had_at (faults_at l.side calls l.rank.rank) l.rank.calls e.0) l.number-iterator ≡ l.initial.faults ++ by_number (faults_at l.side calls l.rank.rank) 0 l.rank.calls
