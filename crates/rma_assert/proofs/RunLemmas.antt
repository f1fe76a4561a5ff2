-- The ranks of a run that make calls.
use Rattle.std.proofs.Common.{◌≡◌, ℕ, List, [], Option, Some, None, slice_get, refl, sym, ap, ◌∙◌}
use Rattle.std.specs.Option.{option_map_or}
use Rattle.std.proofs.lemmas.Option.{none-some}
use Rattle.rma_base.specs.declared.rank.Rank.{Rank}
use Rattle.rma_call.specs.Call.{Call, RankCalls}
use Rattle.rma_run.specs.Run.{IsRun, calls_of}

-- the calls of a rank of the run
pub calls_there : (ranks : List RankCalls) (rank : ℕ) (own : RankCalls) → slice_get ranks rank ≡ Some own → calls_of ranks rank ≡ own.calls
calls_there ranks rank own there = ap (λ (o : Option RankCalls). option_map_or (λ (r : RankCalls). r.calls) o []) there

-- a rank that makes a call is one of the run
pub caller_there : (ranks : List RankCalls) (rank number : ℕ) (call : Call) → slice_get (calls_of ranks rank) number ≡ Some call → (own : RankCalls) × (slice_get ranks rank ≡ Some own)
caller_there ranks rank number call there = by (slice_get ranks rank) refl
  where
    by : (o : Option RankCalls) → slice_get ranks rank ≡ o → (own : RankCalls) × (slice_get ranks rank ≡ Some own)
    by None is = absurd (none-some call (ap (λ (o : Option RankCalls). slice_get (option_map_or (λ (r : RankCalls). r.calls) o []) number) (sym is) ∙ there))
    by (Some own) is = (own, is)

-- it stands at its number
pub rank_there : (ranks : List RankCalls) (i : ℕ) (own : RankCalls) → IsRun ranks → slice_get ranks i ≡ Some own → slice_get ranks own.rank.0 ≡ Some own
rank_there ranks i own run there = ap (slice_get ranks) (run.in_order i own there) ∙ there

pub own_rank : (ranks : List RankCalls) (rank : Rank) (own : RankCalls) → IsRun ranks → slice_get ranks rank.0 ≡ Some own → rank ≡ own.rank
own_rank ranks rank own run there = let same = sym (run.in_order rank.0 own there) in λ k. record { 0 = same k }
