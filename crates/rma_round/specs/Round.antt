-- The rounds of calls that all members make: the k-th calls of a kind on a name are one round (MPI 4.0, "Collective
-- Communication" and "One-Sided Communications").
use Rattle.std.specs.Prelude.{ℕ, ◌+◌, ◌==◌, List, [], ◌∷◌, Option, slice_get, position, if◌then◌else◌}
use Rattle.std.specs.Option.{option_and_then, option_or}
use Rattle.rma_call.specs.Call.{Call}
use Rattle.rma_call.specs.declared.what.What.{What}
use Rattle.rma_round.specs.declared.kind.Kind.{Kind}
use Rattle.rma_round.specs.declared.kind.Kind.TheVariants.{Collective, Free, Fence, Moving}
use Rattle.rma_round.specs.Kind.{named, is_on}

-- the numbers of those of a rank's calls that are of this kind on this name; the first of the calls has this number
abbrev pub numbers_from : Kind → List ℕ → ℕ → List Call → List ℕ
numbers_from kind name number [] = []
numbers_from kind name number (call ∷ calls) =
    if is_on kind name call then number ∷ numbers_from kind name (number + 1) calls else numbers_from kind name (number + 1) calls

-- the same of all calls of a rank
abbrev pub numbers : Kind → List ℕ → List Call → List ℕ
numbers kind name calls = numbers_from kind name 0 calls

-- the number of the round of a rank's call of this kind on this name, which is its place among those calls
abbrev pub place_in : Kind → List ℕ → List Call → ℕ → Option ℕ
place_in kind name calls number = position (λ m. m == number) (numbers kind name calls)

-- the call of another rank that is of the round of the call of this number of a rank
abbrev pub match_of : Kind → List ℕ → (ℕ → List Call) → ℕ → ℕ → ℕ → Option ℕ
match_of kind name calls rank number other = option_and_then (slice_get (numbers kind name (calls other))) (place_in kind name (calls rank) number)

-- the same, where the call of this number does this and is of the kind
abbrev pub matched_at : Kind → (ℕ → List Call) → ℕ → ℕ → ℕ → What → Option ℕ
matched_at kind calls rank number other what = option_and_then (λ name. match_of kind name calls rank number other) (named kind what)

-- the same, of whichever kind it is
abbrev pub matched : (ℕ → List Call) → ℕ → ℕ → ℕ → What → Option ℕ
matched calls rank number other what =
    option_or (matched_at Collective calls rank number other what)
    (option_or (matched_at Free calls rank number other what) (option_or (matched_at Fence calls rank number other what) (matched_at Moving calls rank number other what)))

-- the call of another rank that is of the round of the call of this number of a rank
abbrev pub partner_of : (ℕ → List Call) → ℕ → ℕ → ℕ → Option ℕ
partner_of calls rank number other = option_and_then (λ call. matched calls rank number other call.what) (slice_get (calls rank) number)
