-- Ranks whose calls on one name have the same numbers.
use Rattle.std.specs.Prelude.{◌≡◌, ◌≢◌, ◌<◌, ℕ, List, [], length, All, Contains}
use Rattle.rma_round.specs.declared.name_rounds.RankRounds.{RankRounds}

-- a rank has no calls, or calls of these numbers
abbrev pub IsAs : List ℕ → RankRounds → Type 0
IsAs numbers row = 0 < length row.numbers.now → row.numbers.now ≡ numbers

-- all ranks that have calls have calls of the same numbers
pub record AreTheSame (rows : List RankRounds) : Type 0 where
  pub numbers : List ℕ
  pub all : All (IsAs numbers) rows

-- one of the ranks has calls of other numbers than these
pub record AnyDiffers (numbers : List ℕ) (rows : List RankRounds) : Type 0 where
  pub row : RankRounds
  pub has : Contains rows row
  pub some : 0 < length row.numbers.now
  pub differ : row.numbers.now ≢ numbers

-- these are the numbers of the calls of one of the ranks, or no rank has calls
pub record AreOfRow (numbers : List ℕ) (rows : List RankRounds) : Type 0 where
  pub some : 0 < length numbers → (row : RankRounds) × Contains rows row × (row.numbers.now ≡ numbers)
  pub none : numbers ≡ [] → All (λ row. row.numbers.now ≡ []) rows

-- two ranks that have calls have calls of other numbers
pub record RowsDiffer (rows : List RankRounds) : Type 0 where
  pub one : RankRounds
  pub has_one : Contains rows one
  pub one_calls : 0 < length one.numbers.now
  pub other : AnyDiffers one.numbers.now rows
