-- Where calls stand among other calls of their ranks.
use Rattle.std.specs.Prelude.{◌≡◌, ◌<◌, ℕ, List, Some, nat_lt, length, get_or, slice_get, take, All, Contains}
use Rattle.std.specs.List.{prefix_len}
use Rattle.std.specs.Option.{option_map_or}
use Rattle.rma_call.specs.Call.{Call}
use Rattle.rma_round.specs.declared.kind.Kind.{Kind}
use Rattle.rma_round.specs.declared.name_rounds.NameRounds.{NameRounds}
use Rattle.rma_round.specs.declared.name_rounds.RankRounds.{RankRounds}
use Rattle.rma_round.specs.Round.{numbers}
use Rattle.rma_round.specs.inside.Rounds.{calls_in}
use Rattle.rma_agreement.specs.Collective.{place_of}

-- each of these numbers is below those behind it
abbrev pub Ascend : List ℕ → Type 0
Ascend own = (i j : ℕ) → i < j → j < length own → get_or own i 0 < get_or own j 0

-- how many of these ascending numbers are below one
abbrev pub place_among : List ℕ → ℕ → ℕ
place_among others number = prefix_len (λ other. nat_lt other number) others

-- the place among others of the call of a round, by the numbers of a rank's calls
abbrev pub place_in_round : List ℕ → List ℕ → ℕ → ℕ
place_in_round others own round = option_map_or (place_among others) (slice_get own round) 0

-- the calls of a rank have these places among others, round by round
abbrev pub HavePlaces : (ℕ → ℕ) → List ℕ → List ℕ → Type 0
HavePlaces places others own = (round number : ℕ) → slice_get own round ≡ Some number → place_among others number ≡ places round

-- the calls of a rank have the places of those of another, round by round, among the other calls that are kept
abbrev pub RowIsPlaced : NameRounds → RankRounds → RankRounds → Type 0
RowIsPlaced others first row =
    Ascend first.numbers.now → Ascend row.numbers.now → HavePlaces (place_in_round (calls_in others first.rank.0) first.numbers.now) (calls_in others row.rank.0) row.numbers.now

-- the calls of all ranks have the places of those of one of them
abbrev pub AllPlaced : NameRounds → List RankRounds → Type 0
AllPlaced others rows = (first : RankRounds) × Contains rows first × All (RowIsPlaced others first) rows

-- the calls of each round of the kind on the name have the same place among the barriers and creations of windows of their ranks
abbrev pub SharePlaces : Kind → (ℕ → List Call) → List ℕ → Type 0
SharePlaces kind calls name =
    (places : ℕ → ℕ) ×
    ((rank round number : ℕ) (call : Call) → slice_get (numbers kind name (calls rank)) round ≡ Some number → slice_get (calls rank) number ≡ Some call →
    place_of (take number (calls rank)) call.what ≡ places round)
