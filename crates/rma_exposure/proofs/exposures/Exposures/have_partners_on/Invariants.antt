use Rattle.std.proofs.Common.{ℕ, List, ◌≤◌, length}
use Rattle.std.specs.Prelude.{All}
use Rattle.rma_call.specs.Call.{Call}
use Rattle.rma_exposure.specs.Opening.{opposite}
use Rattle.rma_exposure.specs.Matching.{numbers}
use Rattle.rma_exposure.specs.inside.Epochs.{Represents}
use Rattle.rma_exposure.proofs.exposures.Exposures.have_partners_on.Given as goal

-- where the ranks that are left have partners, all have
abbrev pub invariant-loop-other : goal.invariant-loop-other
invariant-loop-other l = (calls : ℕ → List Call) → Represents calls l.self → All (λ e. length e.1 ≤ length (numbers (opposite l.side) l.window l.rank.0 (calls e.0))) l.other-iterator
    → All (λ e. length e.1 ≤ length (numbers (opposite l.side) l.window l.rank.0 (calls e.0))) l.openings.numbers.entries
