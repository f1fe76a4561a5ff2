-- The numbers of calls by which operations are completed and epochs are synchronised are those of calls.
use Rattle.std.proofs.Common.{◌≡◌, ℕ, zero, suc, ◌+◌, ◌<◌, ◌==◌, ◌&&◌, nat_lt, cond, min, Bool, true, false, List, [], ◌∷◌, length, Option, Some, None, IfSome, slice_get, arith}
use Rattle.std.specs.Prelude.{position}
use Rattle.std.specs.Option.{option_and_then}
use Rattle.std.proofs.lemmas.Option.{none-some, same_Some, slice_get_within}
use Rattle.rma_base.specs.declared.rank.Rank.{Rank}
use Rattle.rma_call.specs.Call.{Call}
use Rattle.rma_call.specs.declared.what.What.{What}
use Rattle.rma_window.specs.Windows.{Window}
use Rattle.rma_window.specs.declared.window_id.WindowId.{WindowId}
use Rattle.rma_completion.specs.Completing.{completes_locally, completes_remotely}
use Rattle.rma_completion.specs.Done.{awaits, earlier, first_after, first_behind, first_from, local_completion, remote_completion, wait_of}
use Rattle.rma_exposure.proofs.ClosingLemmas.{closing_is}
use Rattle.rma_exposure.specs.Closing.{closing_of}
use Rattle.rma_exposure.specs.Matching as exposure
use Rattle.rma_exposure.specs.Opening.{Opening, opening_at, opens_with, opposite}
use Rattle.rma_exposure.specs.declared.side.Side.{Side}
use Rattle.rma_exposure.specs.declared.side.Side.TheVariants.{Access, Exposure}
use Rattle.rma_round.proofs.NumberLemmas.{match_is}
use Rattle.rma_round.specs.Kind.{named}
use Rattle.rma_round.specs.Round as round
use Rattle.rma_round.specs.declared.kind.Kind.{Kind}
use Rattle.rma_round.specs.declared.kind.Kind.TheVariants.{Collective, Fence, Free, Moving}
use Rattle.rma_points.proofs.OptionLemmas.{and_then_some, each_some, or_some}

-- it is the number of one of so many calls, where there is one
abbrev pub AreWithin : ℕ → Option ℕ → Type 0
AreWithin count number = IfSome number (λ n. n < count)

-- ---- completions

behind_within : (test : Call → Bool) (number from : ℕ) (calls : List Call) → AreWithin (from + length calls) (first_behind test number from calls)
behind_within test number from [] = tt
behind_within test number from (call ∷ calls) = by (nat_lt number from && test call) (first_behind test number (from + 1) calls) (behind_within test number (from + 1) calls)
  where
    by : (b : Bool) (rest : Option ℕ) → AreWithin (from + 1 + length calls) rest → AreWithin (from + length (call ∷ calls)) (cond b (Some from) rest)
    by true rest within = omega arith
    by false None within = tt
    by false (Some n) within = omega arith

from_within : (test : Call → Bool) (from : ℕ) (calls : List Call) → AreWithin (from + length calls) (first_from test from calls)
from_within test from [] = tt
from_within test from (call ∷ calls) = by (test call) (first_from test (from + 1) calls) (from_within test (from + 1) calls)
  where
    by : (b : Bool) (rest : Option ℕ) → AreWithin (from + 1 + length calls) rest → AreWithin (from + length (call ∷ calls)) (cond b (Some from) rest)
    by true rest within = omega arith
    by false None within = tt
    by false (Some n) within = omega arith

from_none : (count : ℕ) (number : Option ℕ) → AreWithin (0 + count) number → AreWithin count number
from_none count None within = tt
from_none count (Some n) within = omega arith

earlier_within : (count : ℕ) (a b : Option ℕ) → AreWithin count a → AreWithin count b → AreWithin count (earlier a b)
earlier_within count None b first second = second
earlier_within count (Some n) None first second = first
earlier_within count (Some n) (Some m) first second = let less : min n m < count = omega arith in less

module _ (windows : List Window) (calls : List Call) (id : WindowId) (target : Rank) where
  pub remote_within : (number : ℕ) → AreWithin (length calls) (remote_completion windows calls id target number)
  remote_within number =
      from_none (length calls) (remote_completion windows calls id target number) (behind_within (completes_remotely windows id target) number 0 calls)

  pub local_within : (request : Option ℕ) (number : ℕ) → AreWithin (length calls) (local_completion windows calls id target request number)
  local_within request number =
      let test = completes_locally windows id target in
      earlier_within (length calls) (first_after test calls number) (option_and_then (wait_of calls) request)
      (from_none (length calls) (first_after test calls number) (behind_within test number 0 calls))
      (and_then_some (λ n. n < length calls) (wait_of calls) request (λ r. from_none (length calls) (wait_of calls r) (from_within (awaits r) 0 calls)))

-- ---- rounds

module _ (calls : ℕ → List Call) (rank number other : ℕ) where
  match_within : (kind : Kind) (name : List ℕ) → AreWithin (length (calls other)) (round.match_of kind name calls rank number other)
  match_within kind name =
      each_some (λ n. n < length (calls other)) (round.match_of kind name calls rank number other) (λ n is.
      let one = match_is kind name calls rank number other n is in
      slice_get_within (calls other) n one.0 one.1)

  at_within : (what : What) (kind : Kind) → AreWithin (length (calls other)) (round.matched_at kind calls rank number other what)
  at_within what kind = and_then_some (λ n. n < length (calls other)) (λ name. round.match_of kind name calls rank number other) (named kind what) (match_within kind)

  matched_within : (what : What) → AreWithin (length (calls other)) (round.matched calls rank number other what)
  matched_within what =
      let P : ℕ → Type 0 = λ n. n < length (calls other) in
      let at : Kind → Option ℕ = λ kind. round.matched_at kind calls rank number other what in
      or_some P (at Collective) _ (at_within what Collective)
      (or_some P (at Free) _ (at_within what Free) (or_some P (at Fence) (at Moving) (at_within what Fence) (at_within what Moving)))

  -- the call of another rank in a round is one of its calls
  pub round_within : AreWithin (length (calls other)) (round.partner_of calls rank number other)
  round_within = and_then_some (λ n. n < length (calls other)) (λ (call : Call). round.matched calls rank number other call.what) (slice_get (calls rank) number) (λ call. matched_within call.what)

-- ---- posts and starts

number_within : (side : Side) (window : List ℕ) (other from : ℕ) (calls : List Call) (place n : ℕ) → slice_get (exposure.numbers_from side window other from calls) place ≡ Some n → n < from + length calls
number_within side window other from [] place n is = absurd (none-some n is)
number_within side window other from (call ∷ calls) place n is = by (opens_with side window other call) place is (λ p at. number_within side window other (from + 1) calls p n at)
  where
    rest : List ℕ
    rest = exposure.numbers_from side window other (from + 1) calls

    by : (b : Bool) (p : ℕ) → slice_get (cond b (from ∷ exposure.numbers_from side window other (from + 1) calls) (exposure.numbers_from side window other (from + 1) calls)) p ≡ Some n
        → ((q : ℕ) → slice_get (exposure.numbers_from side window other (from + 1) calls) q ≡ Some n → n < from + 1 + length calls) → n < from + length (call ∷ calls)
    by true zero at later = let same = same_Some from n at in omega arith
    by true (suc p) at later = let less = later p at in omega arith
    by false p at later = let less = later p at in omega arith

module _ (calls : ℕ → List Call) (rank number other : ℕ) where
  opening_within : (side : Side) (window : List ℕ) → AreWithin (length (calls other)) (exposure.match_of side window calls rank number other)
  opening_within side window =
      let listed = exposure.numbers (opposite side) window rank (calls other) in
      and_then_some (λ n. n < length (calls other)) (slice_get listed) (position (λ m. m == number) (exposure.numbers side window other (calls rank)))
      (λ place. each_some (λ n. n < length (calls other)) (slice_get listed place) (λ n is. let less = number_within (opposite side) window rank 0 (calls other) place n is in omega arith))

  side_within : (side : Side) → AreWithin (length (calls other)) (exposure.matched_at side calls rank number other)
  side_within side =
      and_then_some (λ n. n < length (calls other)) (λ (opening : Opening). exposure.match_of side opening.window calls rank number other) (opening_at side (calls rank) number)
      (λ opening. opening_within side opening.window)

  -- the post that matches a start, or the start that matches a post, is a call of its rank
  pub exposure_within : AreWithin (length (calls other)) (exposure.partner_of calls rank number other)
  exposure_within =
      or_some (λ n. n < length (calls other)) (exposure.matched_at Exposure calls rank number other) (exposure.matched_at Access calls rank number other) (side_within Exposure) (side_within Access)

-- the call that closes an epoch of a side is one of its rank
pub closing_within : (side : Side) (calls : List Call) (number : ℕ) → AreWithin (length calls) (closing_of side calls number)
closing_within side calls number =
    each_some (λ n. n < length calls) (closing_of side calls number) (λ n is.
    let one = closing_is side calls number n is in
    slice_get_within calls n one.call one.there)
