use Rattle.std.proofs.Common.{◌≡◌, ◌<◌, ◌≤◌, ℕ, Some, length, get_or, slice_get}
use Rattle.rma_agreement.specs.inside.Place.{Ascend, place_among, place_in_round}
use Rattle.rma_agreement.proofs.place.have_places.Given as goal

-- the calls of the rounds so far have the places, and those of the others have none before it
abbrev pub invariant-loop-round : goal.invariant-loop-round
invariant-loop-round l = record {
  first_within : l.place ≤ length l.first_others;
  within : l.place ≤ length l.others;
  first_before : Ascend l.first → (round : ℕ) → l.round ≤ round → round < length l.first → l.place ≤ place_among l.first_others (get_or l.first round 0);
  before : Ascend l.own → (round : ℕ) → l.round ≤ round → round < length l.own → l.place ≤ place_among l.others (get_or l.own round 0);
  so_far : Ascend l.first → Ascend l.own → (round number : ℕ) → round < l.round → slice_get l.own round ≡ Some number → place_among l.others number ≡ place_in_round l.first_others l.first round;
}
