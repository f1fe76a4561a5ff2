-- Which call closes an epoch (MPI 4.0, "One-Sided Communications").
use Rattle.std.specs.Prelude.{◌≡◌, ◌<◌, ℕ, zero, suc, ◌+◌, List, [], ◌∷◌, true, false, Option, Some, None, slice_get, take, if◌then◌else◌}
use Rattle.std.specs.Option.{option_and_then}
use Rattle.rma_call.specs.Call.{Call}
use Rattle.rma_exposure.specs.declared.side.Side.{Side}
use Rattle.rma_exposure.specs.Opening.{Opening, opened, closed, opening_at, opens_on, closes_on}

-- the number of the first call that closes an epoch of the side on the window, where none that opens one comes before it;
-- the first of the calls has this number
abbrev pub first_closing : Side → List ℕ → ℕ → List Call → Option ℕ
first_closing side window number [] = None
first_closing side window number (call ∷ calls) =
    if closes_on side window call then Some number else (if opens_on side window call then None else first_closing side window (number + 1) calls)

-- the number of the call that closes the epoch which the call at an index opens; the first of the calls has this number
abbrev pub closing_at : Side → ℕ → List Call → ℕ → Option ℕ
closing_at side number [] index = None
closing_at side number (call ∷ calls) zero = option_and_then (λ opening. first_closing side opening.window (number + 1) calls) (opened side call.what)
closing_at side number (call ∷ calls) (suc index) = closing_at side (number + 1) calls index

-- the call of a rank that closes the epoch which its call of this number opens: the complete of a start, or the expwait of a
-- post, that is the first on the window after it with no other start, or no other post, on the window between
abbrev pub closing_of : Side → List Call → ℕ → Option ℕ
closing_of side calls number = closing_at side 0 calls number

-- the opening that is open after some calls, where this one was before them; the first of the calls has this number
abbrev pub pending_after : Side → List ℕ → ℕ → Option ℕ → List Call → Option ℕ
pending_after side window number found [] = found
pending_after side window number found (call ∷ calls) =
    pending_after side window (number + 1) (if opens_on side window call then Some number else (if closes_on side window call then None else found)) calls

-- the last of a rank's calls that opens an epoch of the side on the window, where none after it closes it
abbrev pub pending_of : Side → List ℕ → List Call → Option ℕ
pending_of side window calls = pending_after side window 0 None calls

-- the window of the call of this number of a rank, where that closes an epoch of the side
abbrev pub closed_at : Side → List Call → ℕ → Option (List ℕ)
closed_at side calls number = option_and_then (λ call. closed side call.what) (slice_get calls number)

-- the call of a rank that opens the epoch which its call of this number closes: the one whose epoch is open on the window when
-- that is called
abbrev pub opener_of : Side → List Call → ℕ → Option ℕ
opener_of side calls number = option_and_then (λ window. pending_of side window (take number calls)) (closed_at side calls number)

-- one call of a rank closes the epoch that another one opens: it is on the same window and comes later, and no call between them
-- opens or closes an epoch of the side on the window
pub record IsClosedBy (side : Side) (calls : List Call) (opener closing : ℕ) : Type 0 where
  pub opening : Opening
  pub call : Call
  pub opens : opening_at side calls opener ≡ Some opening
  pub there : slice_get calls closing ≡ Some call
  pub closes : closes_on side opening.window call ≡ true
  pub later : opener < closing
  pub between : (k : ℕ) (other : Call) → opener < k → k < closing → slice_get calls k ≡ Some other →
      (closes_on side opening.window other ≡ false) × (opens_on side opening.window other ≡ false)
