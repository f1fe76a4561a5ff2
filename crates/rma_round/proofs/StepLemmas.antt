-- Ranks that go in step.
use Rattle.std.proofs.Common.{◌≡◌, ℕ, ◌<◌, List, [], ◌∷◌, length, Some, slice_get, refl, sym, ap, subst, ◌∙◌, arith}
use Rattle.std.specs.Prelude.{Contains}
use Rattle.std.proofs.lemmas.List.Elements.{All-contains}
use Rattle.std.proofs.lemmas.Option.{same_Some, slice_get_read}
use Rattle.rma_call.specs.Call.{Call}
use Rattle.rma_round.specs.declared.kind.Kind.{Kind}
use Rattle.rma_round.specs.declared.name_rounds.NameRounds.{NameRounds}
use Rattle.rma_round.specs.declared.name_rounds.RankRounds.{RankRounds}
use Rattle.rma_round.specs.Kind.{named}
use Rattle.rma_round.specs.Round.{numbers}
use Rattle.rma_round.specs.Step.{DifferOn, GoInStepOn}
use Rattle.rma_round.specs.inside.Rounds.{AreOnName, AreRows, calls_in}
use Rattle.rma_round.specs.inside.Step.{AnyDiffers, AreOfRow, AreTheSame, IsAs, RowsDiffer}
use Rattle.rma_round.proofs.NumberLemmas.{call_at}
use Rattle.rma_round.proofs.RowLemmas.{calls_of_row, row_of, some_there}

-- where all ranks that have calls have calls of the same numbers, the calls of a round have one
module _ (rounds : NameRounds) (rows : List RankRounds) (are : AreRows rounds rows) (same : AreTheSame rows) where
  at_round : (rank round n : ℕ) → slice_get (calls_in rounds rank) round ≡ Some n → slice_get same.numbers round ≡ Some n
  at_round rank round n at =
      let some = some_there (calls_in rounds rank) round n at in
      let one = row_of rounds rows are rank some in
      let own : one.0.numbers.now ≡ calls_in rounds rank = calls_of_row rounds rows are one.0 one.1 ∙ ap (calls_in rounds) one.2 in
      let all : one.0.numbers.now ≡ same.numbers = All-contains (IsAs same.numbers) rows one.0 same.all one.1 (subst (λ (l : List ℕ). 0 < length l) (sym own) some) in
      ap (λ them. slice_get them round) (sym all ∙ own) ∙ at

  pub in_step_on : (kind : Kind) (name : List ℕ) (calls : ℕ → List Call) → AreOnName kind name calls rounds → GoInStepOn kind name calls
  in_step_on kind name calls on round one other m n first second =
      same_Some m n
      (sym (at_round one round m (ap (λ them. slice_get them round) (on one) ∙ first)) ∙ at_round other round n (ap (λ them. slice_get them round) (on other) ∙ second))

-- a rank that has calls of other numbers than those of some rank differs from that one
pub rows_differ : (rows : List RankRounds) (numbers : List ℕ) → AreOfRow numbers rows → AnyDiffers numbers rows → RowsDiffer rows
rows_differ rows [] are other =
    let none : other.row.numbers.now ≡ [] = All-contains (λ (r : RankRounds). r.numbers.now ≡ []) rows other.row (are.none refl) other.has in absurd (other.differ none)
rows_differ rows (n ∷ ns) are other =
    let one = are.some (omega arith) in
    record {
      one = one.0;
      has_one = one.1;
      one_calls = subst (λ (l : List ℕ). 0 < length l) (sym one.2) (omega arith);
      other = subst (λ (l : List ℕ). AnyDiffers l rows) (sym one.2) other;
    }

-- two ranks whose rows differ do not go in step
module _ (rounds : NameRounds) (rows : List RankRounds) (are : AreRows rounds rows) (kind : Kind) (name : List ℕ) (calls : ℕ → List Call) (on : AreOnName kind name calls rounds) where
  numbers_of_row : (row : RankRounds) → Contains rows row → row.numbers.now ≡ numbers kind name (calls row.rank.0)
  numbers_of_row row has = calls_of_row rounds rows are row has ∙ on row.rank.0

  pub differ_on : RowsDiffer rows → DifferOn kind name calls
  differ_on two =
      let one = numbers_of_row two.one two.has_one in
      let other = numbers_of_row two.other.row two.other.has in
      record {
        one = two.one.rank.0;
        other = two.other.row.rank.0;
        one_calls = subst (λ (l : List ℕ). 0 < length l) one two.one_calls;
        other_calls = subst (λ (l : List ℕ). 0 < length l) other two.other.some;
        differ = λ same. two.other.differ (other ∙ sym same ∙ sym one);
      }

-- what goes in step on each name that calls are on goes in step on every name
pub every_name_in_step : (kind : Kind) (calls : ℕ → List Call) (names : List (List ℕ)) →
    ((rank number : ℕ) (call : Call) (name : List ℕ) → slice_get (calls rank) number ≡ Some call → named kind call.what ≡ Some name → Contains names name) →
    ((j : ℕ) (name : List ℕ) → j < length names → slice_get names j ≡ Some name → GoInStepOn kind name calls) → (name : List ℕ) → GoInStepOn kind name calls
every_name_in_step kind calls names each on name round one other m n first second =
    let call = call_at kind name (calls one) round m first in
    let has = each one m call.0 name call.1 call.2 in
    on has.0 name has.1 (slice_get_read names (length names) has.0 name refl has.1 (sym has.2)) round one other m n first second
