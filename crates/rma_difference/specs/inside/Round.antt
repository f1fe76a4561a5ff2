-- What is kept of the rounds of a name.
use Rattle.std.specs.Prelude.{◌≡◌, ℕ, List, [], ◌∷◌, ◌++◌, length, slice_get, Option, Some, None, option_map, unwrap_or, find, nat_eq, nat_lt, ◌==◌, ◌&&◌, if◌then◌else◌}
use Rattle.std.specs.Map.{lookup}
use Rattle.std.specs.Option.{option_or}
use Rattle.std.specs.Cmp.Lexicographic.{pointwise}
use Rattle.rma_call.specs.Call.{RankCalls}
use Rattle.rma_call.specs.declared.match_fault.MatchFault.{MatchFault}
use Rattle.rma_round.specs.declared.kind.Kind.{Kind}
use Rattle.rma_agreement.specs.declared.first.First.{First}
use Rattle.rma_difference.specs.declared.round.NameRounds.{NameRounds}
use Rattle.rma_difference.specs.declared.round.Rounds.{Rounds}
use Rattle.rma_agreement.specs.Collective.{RoundCall, round_calls, made_on}
use Rattle.rma_difference.specs.inside.CallCount.{empty, number_in, counted, AreCallCounts}
use Rattle.rma_agreement.specs.Round.{round_differences, is_at, kept}

-- no calls
abbrev pub no_rounds : NameRounds
no_rounds = record { firsts = []; call_counts = empty }

-- the first calls of each number, with one more call of this number
abbrev pub with_first : List First → ℕ → First → List First
with_first firsts number own = if nat_lt number (length firsts) then firsts else firsts ++ own ∷ []

-- one more call of a rank
abbrev pub joined : NameRounds → ℕ → First → NameRounds
joined m index own = record { firsts = with_first m.firsts (number_in m.call_counts index) own; call_counts = counted m.call_counts index }

-- what is kept of a name
abbrev pub rounds_of : List (List ℕ × NameRounds) → List ℕ → NameRounds
rounds_of names name = unwrap_or (lookup (pointwise nat_eq name) names) no_rounds

-- what is kept of the first call of a round
abbrev pub first_at : List (List ℕ × NameRounds) → List ℕ → ℕ → Option First
first_at names name number = slice_get (rounds_of names name).firsts number

-- what is kept is the first call of each round
abbrev pub AreFirsts : List RoundCall → List (List ℕ × NameRounds) → Type 0
AreFirsts seen names = (name : List ℕ) (number : ℕ) → first_at names name number ≡ option_map kept (find (is_at name number) seen)

-- what is kept after a call, which is the first of its round if there was none
abbrev pub IsJoined : List (List ℕ × NameRounds) → List (List ℕ × NameRounds) → List ℕ → ℕ → First → Type 0
IsJoined old new own_name own_number own =
    (name : List ℕ) (number : ℕ) →
    first_at new name number ≡ option_or (first_at old name number) (if pointwise nat_eq own_name name && own_number == number then Some own else None)

-- the firsts and the faults of the calls so far
pub record HaveJoined (kind : Kind) (seen : List RoundCall) (names : List (List ℕ × NameRounds)) (faults : List MatchFault) : Type 0 where
  pub firsts_are : AreFirsts seen names
  pub faults_are : faults ≡ round_differences kind seen

-- what is kept of a name represents the calls of the ranks up to the current one
pub record AreNameRounds (kind : Kind) (ranks : List RankCalls) (index : ℕ) (name : List ℕ) (m : NameRounds) : Type 0 where
  pub call_counts_are : AreCallCounts (made_on kind ranks name) index m.call_counts
  pub firsts_are_as_many : m.call_counts.largest ≡ length m.firsts

-- what is kept represents the calls of this kind of the ranks
pub record AreRounds (kind : Kind) (ranks : List RankCalls) (index : ℕ) (m : Rounds) : Type 0 where
  pub kind_is : m.kind ≡ kind
  pub have_joined : HaveJoined kind (round_calls kind ranks) m.names.entries m.faults
  pub rounds_are : (name : List ℕ) → AreNameRounds kind ranks index name (rounds_of m.names.entries name)
