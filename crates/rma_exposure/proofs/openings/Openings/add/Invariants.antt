use Rattle.std.proofs.Common.{◌≡◌, ◌++◌, ◌∷◌, [], ℕ, take, cond}
use Rattle.rma_base.specs.RankSet.{has_number}
use Rattle.rma_exposure.specs.inside.Epochs.{listed}
use Rattle.rma_exposure.proofs.openings.Openings.add.Given as goal

-- the ranks before have the number
abbrev pub invariant-loop-other : goal.invariant-loop-other
invariant-loop-other l = (rank : ℕ) →
    listed l.self.numbers.entries rank ≡ listed l.initial.self.numbers.entries rank ++ cond (has_number rank (take l.other-index l.other-items)) (l.number ∷ []) []
