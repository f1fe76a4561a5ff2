use Rattle.std.proofs.Common.{◌≡◌, ◌<◌, ℕ, List, Some, slice_get}
use Rattle.rma_call.specs.Call.{Call}
use Rattle.rma_round.specs.declared.kind.Kind.{Kind}
use Rattle.rma_round.specs.Step.{GoInStepOn}
use Rattle.rma_round.specs.inside.Rounds.{AreOfKind, names_in}
use Rattle.rma_round.proofs.kind_rounds.KindRounds.are_in_step.Given as goal

-- the names so far
abbrev pub invariant-loop-i : goal.invariant-loop-i
invariant-loop-i l =
    (kind : Kind) (calls : ℕ → List Call) → AreOfKind kind calls l.self → (j : ℕ) (name : List ℕ) → j < l.i → slice_get (names_in l.self) j ≡ Some name → GoInStepOn kind name calls
