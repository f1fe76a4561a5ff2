-- Which posts and starts match (MPI 4.0, "One-Sided Communications").
use Rattle.std.specs.Prelude.{ℕ, ◌+◌, ◌==◌, List, [], ◌∷◌, Option, slice_get, position, if◌then◌else◌}
use Rattle.std.specs.Option.{option_and_then, option_or}
use Rattle.rma_call.specs.Call.{Call}
use Rattle.rma_exposure.specs.declared.side.Side.{Side}
use Rattle.rma_exposure.specs.declared.side.Side.TheVariants.{Exposure, Access}
use Rattle.rma_exposure.specs.Opening.{opening_at, opens_with, opposite}

-- the numbers of those of a rank's calls that open an epoch of the side on the window, with another rank in its group; the
-- first of the calls has this number
abbrev pub numbers_from : Side → List ℕ → ℕ → ℕ → List Call → List ℕ
numbers_from side window other number [] = []
numbers_from side window other number (call ∷ calls) =
    if opens_with side window other call then number ∷ numbers_from side window other (number + 1) calls else numbers_from side window other (number + 1) calls

-- the same of all calls of a rank
abbrev pub numbers : Side → List ℕ → ℕ → List Call → List ℕ
numbers side window other calls = numbers_from side window other 0 calls

-- the call of another rank that matches the call of this number of a rank: the k-th start of an origin on a window with a
-- target in its group matches the k-th post of that target on the window with that origin in its group
abbrev pub match_of : Side → List ℕ → (ℕ → List Call) → ℕ → ℕ → ℕ → Option ℕ
match_of side window calls rank number other =
    option_and_then (slice_get (numbers (opposite side) window rank (calls other))) (position (λ m. m == number) (numbers side window other (calls rank)))

-- the same of a call that opens an epoch of the side, on its own window
abbrev pub matched_at : Side → (ℕ → List Call) → ℕ → ℕ → ℕ → Option ℕ
matched_at side calls rank number other = option_and_then (λ opening. match_of side opening.window calls rank number other) (opening_at side (calls rank) number)

-- the call of another rank that matches the call of this number of a rank, which is a post or a start
abbrev pub partner_of : (ℕ → List Call) → ℕ → ℕ → ℕ → Option ℕ
partner_of calls rank number other = option_or (matched_at Exposure calls rank number other) (matched_at Access calls rank number other)
