-- The calls of a rank that are of a kind, by the name that they are on.
use Rattle.std.specs.Prelude.{◌≡◌, ℕ, List, [], ◌∷◌, ◌++◌, Option, Some, None, slice_get, nat_eq, unwrap_or, if◌then◌else◌}
use Rattle.std.specs.Map.{lookup, keys_of}
use Rattle.std.specs.Cmp.Lexicographic.{pointwise}
use Rattle.rma_call.specs.Call.{Call}
use Rattle.rma_call.specs.declared.what.What.{What}
use Rattle.rma_round.specs.declared.kind.Kind.{Kind}
use Rattle.rma_round.specs.declared.kind.Kind.TheVariants as kind
use Rattle.rma_round.specs.declared.own_calls.OwnCalls.{OwnCalls}
use Rattle.rma_round.specs.declared.own_calls.Place.{Place}
use Rattle.rma_round.specs.declared.own_calls.Place.TheVariants as place
use Rattle.rma_round.specs.Kind.{named, is_on}

-- the list under a name, empty where there is none
abbrev pub list_of : List (List ℕ × List ℕ) → List ℕ → List ℕ
list_of lists name = unwrap_or (lookup (pointwise nat_eq name) lists) []

-- what each call does has a number
abbrev pub HasNumbers : List What → List Call → Type 0
HasNumbers whats calls = (i : ℕ) (call : Call) → slice_get calls i ≡ Some call → (number : ℕ) × (slice_get whats number ≡ Some call.what)

-- a place is that of the name which calls are on that do this, and there is none where they are not of the kind
abbrev pub IsPlaceOf : Kind → List (List ℕ) → What → Option ℕ → Type 0
IsPlaceOf kind names what None = named kind what ≡ None
IsPlaceOf kind names what (Some place) = (name : List ℕ) × (slice_get names place ≡ Some name) × (named kind what ≡ Some name)

-- what is kept of a rank's calls of a kind
abbrev pub lists_in : Kind → OwnCalls → List (List ℕ × List ℕ)
lists_in kind.Collective own = own.collectives.entries
lists_in kind.Free own = own.frees.entries
lists_in kind.Fence own = own.fences.entries
lists_in kind.Moving own = own.movings.entries

-- the names that a rank's calls of a kind are on
abbrev pub names_of : Kind → OwnCalls → List (List ℕ)
names_of kind own = keys_of (lists_in kind own)

-- the place among the names of a kind, if it is of the kind
abbrev pub index_in : Kind → Place → Option ℕ
index_in kind.Collective (place.Collective index) = Some index
index_in kind.Free (place.Free index) = Some index
index_in kind.Fence (place.Fence index) = Some index
index_in kind.Moving (place.Moving index) = Some index
index_in _ _ = None

-- the places are those of what calls do, by number
abbrev pub ArePlaces : Kind → List (List ℕ) → List What → List Place → Type 0
ArePlaces kind names whats places =
    (number : ℕ) (what : What) (place : Place) → slice_get whats number ≡ Some what → slice_get places number ≡ Some place → IsPlaceOf kind names what (index_in kind place)

-- names stay where they are
abbrev pub StayThere : List (List ℕ) → List (List ℕ) → Type 0
StayThere old new = (place : ℕ) (name : List ℕ) → slice_get old place ≡ Some name → slice_get new place ≡ Some name

-- a call that is on the name of a place goes to the end of the list there, and the other lists stay
pub record IsPushed (kind : Kind) (place : Option ℕ) (number : ℕ) (old new : List (List ℕ × List ℕ)) : Type 0 where
  pub names_stay : keys_of new ≡ keys_of old
  pub lists_are : (call : Call) → IsPlaceOf kind (keys_of old) call.what place → (name : List ℕ) → list_of new name ≡ list_of old name ++ (if is_on kind name call then number ∷ [] else [])
