-- Rounds whose calls agree.
use Rattle.std.specs.Prelude.{◌≡◌, ℕ, List, Some, take, slice_get, All}
use Rattle.std.specs.Option.{option_and_then, option_map_or}
use Rattle.rma_call.specs.Call.{Call, RankCalls}
use Rattle.rma_call.specs.declared.what.What.{What}
use Rattle.rma_run.specs.Run.{calls_of}
use Rattle.rma_round.specs.declared.kind.Kind.{Kind}
use Rattle.rma_round.specs.Round.{numbers}
use Rattle.rma_round.specs.declared.name_rounds.RankRounds.{RankRounds}
use Rattle.rma_agreement.specs.declared.agreement.Pair.{Pair}
use Rattle.rma_agreement.specs.declared.argument.Arguments.{Arguments}
use Rattle.rma_agreement.specs.declared.argument.Arguments.TheVariants.{Nothing}
use Rattle.rma_agreement.specs.Argument.{arguments_of}
use Rattle.rma_agreement.specs.Collective.{place_of}
use Rattle.rma_agreement.specs.Balance.{AreBalanced}

-- a call in the round of this number of a kind on a name has to agree on this with the others
pub record IsInRound (kind : Kind) (ranks : List RankCalls) (name : List ℕ) (number : ℕ) (arguments : Arguments) : Type 0 where
  pub rank : ℕ
  pub index : ℕ
  pub call : Call
  pub is_numbered : slice_get (numbers kind name (calls_of ranks rank)) number ≡ Some index
  pub there : slice_get (calls_of ranks rank) index ≡ Some call
  pub are : arguments_of (place_of (take index (calls_of ranks rank)) call.what) call.what ≡ arguments

-- the calls of each round on the name agree
abbrev pub AgreeOn : Kind → List RankCalls → List ℕ → Type 0
AgreeOn kind ranks name = (number : ℕ) (first own : Arguments) → IsInRound kind ranks name number first → IsInRound kind ranks name number own → first ≡ own

-- nothing is at fault with the rounds of a kind
pub record IsRegular (kind : Kind) (ranks : List RankCalls) : Type 0 where
  pub balanced : AreBalanced kind ranks
  pub agree : (name : List ℕ) → AgreeOn kind ranks name

-- what the call in the round of a number has to agree on, but for its place, by the numbers of some calls
abbrev pub arguments_in : List Call → List ℕ → ℕ → Arguments
arguments_in calls numbers number = option_map_or (λ call. arguments_of 0 call.what) (option_and_then (slice_get calls) (slice_get numbers number)) Nothing

-- the calls of these numbers agree with others, round by round, but for their places
abbrev pub ListsAgree : List Call → List ℕ → List Call → List ℕ → Type 0
ListsAgree first_calls first calls own =
    (number index : ℕ) (call : Call) → slice_get own number ≡ Some index → slice_get calls index ≡ Some call → arguments_of 0 call.what ≡ arguments_in first_calls first number

-- what two calls do agrees, by its numbers, but for their places
abbrev pub IsAlike : List What → List What → Pair → Type 0
IsAlike first_whats whats pair = (first own : What) → slice_get first_whats pair.first ≡ Some first → slice_get whats pair.own ≡ Some own → arguments_of 0 first ≡ arguments_of 0 own

-- what the call of a rank in the round of a number has to agree on, but for its place
abbrev pub arguments_at : List RankCalls → RankRounds → ℕ → Arguments
arguments_at ranks row number = arguments_in (calls_of ranks row.rank.0) row.numbers.now number

-- the calls of a rank agree with those of another, round by round, but for their places
abbrev pub RowAgrees : List RankCalls → RankRounds → RankRounds → Type 0
RowAgrees ranks first row = ListsAgree (calls_of ranks first.rank.0) first.numbers.now (calls_of ranks row.rank.0) row.numbers.now

-- the calls of all ranks agree with those of one, round by round, but for their places
abbrev pub AllAgree : List RankCalls → List RankRounds → Type 0
AllAgree ranks rows = (first : RankRounds) × All (RowAgrees ranks first) rows
