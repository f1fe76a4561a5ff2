-- What is kept of the rounds of a run.
use Rattle.std.specs.Prelude.{◌≡◌, ◌<◌, ℕ, List, [], Option, Some, None, nat_eq, unwrap_or, length, map, fold, max, All, Contains}
use Rattle.std.specs.Ordering.{nat_cmp}
use Rattle.std.specs.List.Sorted.{IsStrictlyIncreasing}
use Rattle.std.specs.Map.{lookup, keys_of}
use Rattle.std.specs.BTreeMap.{is_at}
use Rattle.std.specs.Cmp.Lexicographic.{pointwise}
use Rattle.rma_call.specs.Call.{Call}
use Rattle.rma_round.specs.declared.kind.Kind.{Kind}
use Rattle.rma_round.specs.declared.kind.Kind.TheVariants.{Collective, Free, Fence, Moving}
use Rattle.rma_round.specs.declared.name_rounds.NameRounds.{NameRounds}
use Rattle.rma_round.specs.declared.name_rounds.RankRounds.{RankRounds}
use Rattle.rma_round.specs.declared.kind_rounds.KindRounds.{KindRounds}
use Rattle.rma_round.specs.declared.rounds.Rounds.{Rounds}
use Rattle.rma_round.specs.Round.{numbers}

-- the numbers under a rank, none where there is no such rank
abbrev pub listed : List (ℕ × List ℕ) → ℕ → List ℕ
listed entries rank = unwrap_or (lookup (is_at (nat_cmp rank)) entries) []

-- the numbers that are kept of the calls of a rank on one name
abbrev pub calls_in : NameRounds → ℕ → List ℕ
calls_in rounds rank = listed rounds.ranks.entries rank

-- the most calls that are kept of a rank
abbrev pub longest : List (ℕ × List ℕ) → ℕ
longest entries = fold (λ most entry. max most (length entry.1)) 0 entries

-- how many rounds there are on one name: the most calls that are kept of a rank
abbrev pub rounds_in : NameRounds → ℕ
rounds_in rounds = longest rounds.ranks.entries

-- what is kept under a name
abbrev pub kept : List (List ℕ × NameRounds) → List ℕ → Option NameRounds
kept names name = lookup (pointwise nat_eq name) names

-- the numbers that are kept of the calls of a rank on a name
abbrev pub numbers_in : Option NameRounds → ℕ → List ℕ
numbers_in None rank = []
numbers_in (Some rounds) rank = calls_in rounds rank

-- what is kept of the ranks represents the calls of a kind on a name
abbrev pub AreOnName : Kind → List ℕ → (ℕ → List Call) → NameRounds → Type 0
AreOnName kind name calls rounds = (rank : ℕ) → calls_in rounds rank ≡ numbers kind name (calls rank)

-- what is found of a name represents the calls of a kind on it, of which there are none where nothing is found
abbrev pub AreFoundOnName : Kind → List ℕ → (ℕ → List Call) → Option NameRounds → Type 0
AreFoundOnName kind name calls found = (rank : ℕ) → numbers_in found rank ≡ numbers kind name (calls rank)

-- the names of a kind
abbrev pub names_in : KindRounds → List (List ℕ)
names_in rounds = keys_of rounds.names.entries

-- what is kept represents the calls of a kind
pub record AreOfKind (kind : Kind) (calls : ℕ → List Call) (rounds : KindRounds) : Type 0 where
  pub kind_is : rounds.kind ≡ kind
  pub numbers_are : (name : List ℕ) (rank : ℕ) → numbers_in (kept rounds.names.entries name) rank ≡ numbers kind name (calls rank)

-- what is kept of a kind
abbrev pub of_kind : Kind → Rounds → KindRounds
of_kind Collective rounds = rounds.collectives
of_kind Free rounds = rounds.frees
of_kind Fence rounds = rounds.fences
of_kind Moving rounds = rounds.movings

-- what is kept represents these calls of the ranks
pub record Represents (calls : ℕ → List Call) (rounds : Rounds) : Type 0 where
  pub collectives_are : AreOfKind Collective calls rounds.collectives
  pub frees_are : AreOfKind Free calls rounds.frees
  pub fences_are : AreOfKind Fence calls rounds.fences
  pub movings_are : AreOfKind Moving calls rounds.movings

-- the ranks
abbrev pub ranks_of : List RankRounds → List ℕ
ranks_of rows = map (λ row. row.rank.0) rows

-- the ranks that have calls on one name, with their calls: by rank, each once
pub record AreRows (rounds : NameRounds) (rows : List RankRounds) : Type 0 where
  pub ascend : IsStrictlyIncreasing (ranks_of rows)
  pub numbers_are : All (λ row. row.numbers.now ≡ calls_in rounds row.rank.0) rows
  pub each : (rank : ℕ) → 0 < length (calls_in rounds rank) → Contains (ranks_of rows) rank

-- a rank and the numbers of its calls
abbrev pub row_entry : RankRounds → ℕ × List ℕ
row_entry row = (row.rank.0, row.numbers.now)

-- the same of each
abbrev pub row_entries : List RankRounds → List (ℕ × List ℕ)
row_entries rows = map row_entry rows
