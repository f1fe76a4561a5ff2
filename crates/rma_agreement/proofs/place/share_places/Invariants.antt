use Rattle.std.proofs.Common.{◌≡◌, ◌<◌, ℕ, List, Some, slice_get}
use Rattle.rma_call.specs.Call.{Call}
use Rattle.rma_round.specs.declared.kind.Kind.TheVariants as kind
use Rattle.rma_round.specs.inside.Rounds.{Represents, names_in}
use Rattle.rma_agreement.specs.inside.Place.{SharePlaces}
use Rattle.rma_agreement.proofs.place.share_places.Given as goal

-- that is so on the communicators so far
abbrev pub invariant-loop-i : goal.invariant-loop-i
invariant-loop-i l =
    (calls : ℕ → List Call) (j : ℕ) (name : List ℕ) → Represents calls l.rounds → j < l.i → slice_get (names_in l.movings) j ≡ Some name → SharePlaces kind.Moving calls name
