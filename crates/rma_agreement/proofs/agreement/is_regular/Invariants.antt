use Rattle.std.proofs.Common.{◌≡◌, ◌<◌, ℕ, List, Some, slice_get}
use Rattle.rma_round.specs.inside.Rounds.{names_in}
use Rattle.rma_agreement.specs.inside.Agreement.{AgreeOn}
use Rattle.rma_agreement.specs.Balance.{IsBalanced}
use Rattle.rma_agreement.proofs.agreement.is_regular.Given as goal

-- nothing is at fault on the names so far
abbrev pub invariant-loop-i : goal.invariant-loop-i
invariant-loop-i l = (j : ℕ) (name : List ℕ) → j < l.i → slice_get (names_in l.rounds) j ≡ Some name → IsBalanced l.kind l.ranks name × AgreeOn l.kind l.ranks name
