use Rattle.std.proofs.Common.{ℕ, List, ◌≤◌, length, Some}
use Rattle.std.specs.Prelude.{All}
use Rattle.rma_call.specs.Call.{Call}
use Rattle.rma_exposure.specs.Opening.{opposite}
use Rattle.rma_exposure.specs.Matching.{numbers}
use Rattle.rma_exposure.specs.inside.Epochs.{numbers_in, Represents}
use Rattle.rma_exposure.proofs.exposures.Exposures.have_partners.Given as goal

-- where the epochs on the windows that are left have partners, all have
abbrev pub invariant-loop-window : goal.invariant-loop-window
invariant-loop-window l = (calls : ℕ → List Call) → Represents calls l.self
    → All (λ e. (other : ℕ) → length (numbers_in (Some e.1) other) ≤ length (numbers (opposite l.side) e.0 l.rank.0 (calls other))) l.window-iterator
    → All (λ e. (other : ℕ) → length (numbers_in (Some e.1) other) ≤ length (numbers (opposite l.side) e.0 l.rank.0 (calls other))) l.epochs.windows.entries
