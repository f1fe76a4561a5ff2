-- The logs of a run, looked at one by one.
use Rattle.std.proofs.Common.{◌≡◌, ◌<◌, ◌≤◌, ℕ, ◌+◌, List, length, Some, slice_get, refl, sym, subst, arith, inl, inr, ◌⊎◌, ◌≢◌, true, false, eqb}
use Rattle.std.proofs.Common.{get_or}
use Rattle.std.proofs.lemmas.Option.{slice_get_within, slice_get_read}
use Rattle.rma_base.specs.Limits.{fed_limit}
use Rattle.rma_call.specs.Call.{RankCalls}
use Rattle.rma_run.specs.Run.{IsRun}
use Rattle.std.proofs.lemmas.Bool.Decides.{eqb_tells}

-- the log at an index is one of a run
abbrev pub IsAtItsPlace : ℕ → RankCalls → Type 0
IsAtItsPlace i own = (own.rank.0 ≡ i) × (length own.calls ≤ fed_limit)

-- the first logs are
abbrev pub AreFirst : List RankCalls → ℕ → Type 0
AreFirst ranks n = (i : ℕ) (own : RankCalls) → i < n → slice_get ranks i ≡ Some own → IsAtItsPlace i own

split : (i n : ℕ) → i < n + 1 → (i < n) ⊎ (i ≡ n)
split i n below = by (eqb_tells i n)
  where
    by : ((eqb i n ≡ true) × (i ≡ n)) ⊎ ((eqb i n ≡ false) × (i ≢ n)) → (i < n) ⊎ (i ≡ n)
    by (inl (test, same)) = inr same
    by (inr (test, other)) = inl (omega (arith, below, other))

-- and so are those with one more
pub AreFirst_more : (ranks : List RankCalls) (n : ℕ) (own : RankCalls) → n < length ranks → own ≡ get_or ranks n own → IsAtItsPlace n own → AreFirst ranks n → AreFirst ranks (n + 1)
AreFirst_more ranks n own below same at first = λ i other i_below found. by i other found (split i n i_below)
  where
    by : (i : ℕ) (other : RankCalls) → slice_get ranks i ≡ Some other → (i < n) ⊎ (i ≡ n) → IsAtItsPlace i other
    by i other found (inl before) = first i other before found
    by i other found (inr here) =
        let read : slice_get ranks n ≡ Some own = slice_get_read ranks (length ranks) n own refl below same in
        let there : slice_get ranks n ≡ Some other = subst (λ k. slice_get ranks k ≡ Some other) here found in
        let is : own ≡ other = cc in
        subst (λ k. IsAtItsPlace k other) (sym here) (subst (IsAtItsPlace n) is at)

-- all logs are those of a run
pub IsRun_all : (ranks : List RankCalls) (n : ℕ) → length ranks ≤ n → AreFirst ranks n → IsRun ranks
IsRun_all ranks n all first = record {
  in_order = λ i own found. (first i own (omega (arith, all, slice_get_within ranks i own found)) found).0;
  few = λ i own found. (first i own (omega (arith, all, slice_get_within ranks i own found)) found).1;
}
