-- What is had of the calls of a rank that open epochs, by their numbers.
use Rattle.std.proofs.Common.{◌≡◌, ℕ, suc, ◌+◌, ◌<◌, List, [], ◌∷◌, ◌++◌, Option, Some, None, slice_get, length, refl, sym, ap, subst, ◌∙◌, arith, append-nil}
use Rattle.std.specs.List.{flat_map}
use Rattle.std.specs.Map.{keys_of}
use Rattle.std.specs.Option.{option_map_or, option_and_then}
use Rattle.std.proofs.lemmas.Grind.{flat_map-append}
use Rattle.std.proofs.lemmas.List.Folds.{flat_map-map}
use Rattle.std.proofs.lemmas.Option.{slice_get_within}
use Rattle.rma_call.specs.Call.{Call}
use Rattle.rma_run.specs.Run.{by_number}
use Rattle.rma_base.specs.declared.rank.Rank.{Rank}
use Rattle.rma_exposure.specs.declared.side.Side.{Side}
use Rattle.rma_exposure.specs.declared.side.Side.TheVariants.{Exposure}
use Rattle.rma_exposure.specs.Edge.{edges_at, edges_to}
use Rattle.rma_exposure.specs.Opening.{Opening, opened, opening_at}
use Rattle.rma_exposure.specs.inside.Epochs.{number_of_opener, openers}

-- what is had of the call of a number
abbrev pub had_at : {Y : Type 0} → (ℕ → Call → List Y) → List Call → ℕ → List Y
had_at f own number = option_map_or (f number) (slice_get own number) []

module _ {Y : Type 0} (side : Side) (f : ℕ → Call → List Y) (own : List Call) (none : (k : ℕ) (call : Call) → opened side call.what ≡ None → f k call ≡ []) where
  walked_from : (n : ℕ) (calls : List Call) → ((i : ℕ) (call : Call) → slice_get calls i ≡ Some call → slice_get own (n + i) ≡ Some call) →
      flat_map (had_at f own) (by_number (number_of_opener side) n calls) ≡ by_number f n calls
  walked_from n [] each = refl
  walked_from n (c ∷ cs) each =
      flat_map-append (had_at f own) (number_of_opener side n c) (by_number (number_of_opener side) (n + 1) cs)
      ∙ ap (λ l. flat_map (had_at f own) (number_of_opener side n c) ++ l) (walked_from (n + 1) cs (λ i call at. subst (λ k. slice_get own k ≡ Some call) (let e : n + suc i ≡ n + 1 + i = omega arith in e) (each (suc i) call at)))
      ∙ ap (λ l. l ++ by_number f (n + 1) cs) (here (opened side c.what) refl)
    where
      here : (o : Option Opening) → opened side c.what ≡ o → flat_map (had_at f own) (option_map_or (λ opening. n ∷ []) o []) ≡ f n c
      here None is = sym (none n c is)
      here (Some opening) is =
          append-nil (had_at f own n)
          ∙ ap (λ o. option_map_or (f n) o []) (subst (λ k. slice_get own k ≡ Some c) (let e : n + 0 ≡ n = omega arith in e) (each 0 c refl))

  -- what is had of calls that open epochs alone is had of those that are kept
  pub openers_walked : {V : Type 0} (entries : List (ℕ × V)) → keys_of entries ≡ openers side own → flat_map (λ e. had_at f own e.0) entries ≡ by_number f 0 own
  openers_walked entries keys =
      sym (flat_map-map (had_at f own) (λ e. e.0) entries)
      ∙ ap (flat_map (had_at f own)) keys
      ∙ walked_from 0 own (λ i call at. subst (λ k. slice_get own k ≡ Some call) (let e : i ≡ 0 + i = omega arith in e) at)

-- an opening is a call of the rank
pub opening_within : (side : Side) (calls : List Call) (number : ℕ) (opening : Opening) → Some opening ≡ opening_at side calls number → number < length calls
opening_within side calls number opening is = by (slice_get calls number) refl
  where
    by : (o : Option Call) → slice_get calls number ≡ o → number < length calls
    by None at = let no : Some opening ≡ None = is ∙ ap (option_and_then (λ (call : Call). opened side call.what)) at in absurd (cc)
    by (Some call) at = slice_get_within calls number call at

-- the edges to the expwait of an opening that is kept are those of its call
pub edges_had : (calls : ℕ → List Call) (rank : Rank) (own : List Call) (number : ℕ) (opening : Opening) → opening_at Exposure own number ≡ Some opening → had_at (edges_at calls rank) own number ≡ edges_to calls rank number opening
edges_had calls rank own number opening = by (slice_get own number)
  where
    by : (o : Option Call) → option_and_then (λ (call : Call). opened Exposure call.what) o ≡ Some opening → option_map_or (edges_at calls rank number) o [] ≡ edges_to calls rank number opening
    by None is = absurd (cc)
    by (Some call) is = rw is refl
