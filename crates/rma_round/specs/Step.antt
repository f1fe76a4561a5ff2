-- Ranks that go in step (MPI 4.0, "Collective Communication" and "One-Sided Communications").
use Rattle.std.specs.Prelude.{ℕ, ◌≡◌, ◌≢◌, ◌<◌, List, Some, slice_get, length}
use Rattle.rma_call.specs.Call.{Call}
use Rattle.rma_round.specs.declared.kind.Kind.{Kind}
use Rattle.rma_round.specs.Round.{numbers}

-- the calls of each round of a kind on a name have one number: each rank makes it as its n-th call, counted over all its calls
abbrev pub GoInStepOn : Kind → List ℕ → (ℕ → List Call) → Type 0
GoInStepOn kind name calls =
    (round one other m n : ℕ) → slice_get (numbers kind name (calls one)) round ≡ Some m → slice_get (numbers kind name (calls other)) round ≡ Some n → m ≡ n

-- the calls of each round have one number
abbrev pub GoInStep : (ℕ → List Call) → Type 0
GoInStep calls = (kind : Kind) (name : List ℕ) → GoInStepOn kind name calls

-- two ranks both make calls of a kind on a name, and the numbers of these calls, each counted over all calls of its rank, are other
-- lists: in some round their calls have two numbers, or one of them makes more calls than the other
pub record DifferOn (kind : Kind) (name : List ℕ) (calls : ℕ → List Call) : Type 0 where
  pub one : ℕ
  pub other : ℕ
  pub one_calls : 0 < length (numbers kind name (calls one))
  pub other_calls : 0 < length (numbers kind name (calls other))
  pub differ : numbers kind name (calls one) ≢ numbers kind name (calls other)

-- that is so of some kind and some name
abbrev pub DifferSomewhere : (ℕ → List Call) → Type 0
DifferSomewhere calls = (kind : Kind) × (name : List ℕ) × DifferOn kind name calls
