-- The calls of the ranks of a run, with more of one rank, and rank by rank.
use Rattle.std.proofs.Common.{◌≡◌, ℕ, zero, suc, ◌+◌, ◌<◌, ◌≤◌, Bool, true, false, cond, ◌∷◌, ◌++◌, List, [], length, Option, Some, None, slice_get, nat_eq, take, get_or, refl, sym, ap, ◌∙◌, arith, append-nil}
use Rattle.std.specs.Prelude.{Contains}
use Rattle.std.proofs.lemmas.Bool.Decides.{nat_tests}
use Rattle.std.proofs.lemmas.Option.{slice_get_read, slice_get_within}
use Rattle.rma_base.specs.Limits.{fed_limit}
use Rattle.rma_call.specs.Call.{Call, RankCalls}
use Rattle.rma_run.specs.Run.{AreInOrder, IsRun, calls_of, with_calls, lens_of}
use Rattle.rma_run.proofs.WalkLemmas.{taken_there, taken_length}

pub next_same : (a b : ℕ) → nat_eq (suc a) (suc b) ≡ nat_eq a b
next_same a b = grind (arith, nat_tests)

pub zero_next : (n : ℕ) → nat_eq 0 (suc n) ≡ false
zero_next n = grind (arith, nat_tests)

pub next_zero : (n : ℕ) → nat_eq (suc n) 0 ≡ false
next_zero n = grind (arith, nat_tests)

pub itself : (n : ℕ) → nat_eq n n ≡ true
itself n = grind (arith, nat_tests)

-- ---- more calls of a rank

pub none_more : (calls : ℕ → List Call) (rank other : ℕ) → calls other ≡ with_calls calls rank [] other
none_more calls rank other = by (nat_eq rank other)
  where
    by : (b : Bool) → calls other ≡ cond b (calls other ++ []) (calls other)
    by true = sym (append-nil (calls other))
    by false = refl

-- ---- the calls of one more rank

calls_at_end : (done : List RankCalls) (own : RankCalls) (other : ℕ) → cond (nat_eq (length done) other) (calls_of done other ++ own.calls) (calls_of done other) ≡ calls_of (done ++ own ∷ []) other
calls_at_end [] own zero = refl
calls_at_end [] own (suc m) = rw zero_next refl
calls_at_end (d ∷ ds) own zero = rw next_zero refl
calls_at_end (d ∷ ds) own (suc m) = rw next_same (calls_at_end ds own m)

none_yet : (done : List RankCalls) → calls_of done (length done) ≡ []
none_yet [] = refl
none_yet (d ∷ ds) = none_yet ds

-- the next rank has no calls yet
pub next_has_none : (ranks : List RankCalls) (i : ℕ) (own : RankCalls) → slice_get ranks i ≡ Some own → own.rank.0 ≡ i → calls_of (take i ranks) own.rank.0 ≡ []
next_has_none ranks i own there is =
    ap (calls_of (take i ranks)) (is ∙ sym (taken_length ranks i own there)) ∙ none_yet (take i ranks)

-- the calls of the ranks before, with those of the next one
pub next_calls : (ranks : List RankCalls) (i : ℕ) (own : RankCalls) → slice_get ranks i ≡ Some own → own.rank.0 ≡ i → (other : ℕ) →
    with_calls (calls_of (take i ranks)) own.rank.0 own.calls other ≡ calls_of (take (i + 1) ranks) other
next_calls ranks i own there is other =
    ap (λ r. cond (nat_eq r other) (calls_of (take i ranks) other ++ own.calls) (calls_of (take i ranks) other)) (is ∙ sym (taken_length ranks i own there))
    ∙ calls_at_end (take i ranks) own other
    ∙ ap (λ l. calls_of l other) (sym (taken_there ranks i own there))

-- ---- how many calls there are

-- no rank has more calls than there may be
pub calls_are_few : (ranks : List RankCalls) (rank : ℕ) → IsRun ranks → length (calls_of ranks rank) ≤ fed_limit
calls_are_few ranks rank run = by (slice_get ranks rank) refl
  where
    by : (o : Option RankCalls) → slice_get ranks rank ≡ o → length (calls_of ranks rank) ≤ fed_limit
    by None is = rw is (omega arith)
    by (Some own) is = rw is (run.few rank own is)

-- how many calls a rank makes
pub lens_are : (ranks : List RankCalls) (rank : ℕ) → get_or (lens_of ranks) rank 0 ≡ length (calls_of ranks rank)
lens_are [] rank = refl
lens_are (r ∷ rs) zero = refl
lens_are (r ∷ rs) (suc rank) = lens_are rs rank

-- the calls of a rank of the run are those of its log
pub calls_are_own : (ranks : List RankCalls) (own : RankCalls) → AreInOrder ranks → Contains ranks own → calls_of ranks own.rank.0 ≡ own.calls
calls_are_own ranks own in_order (k, lt, at) =
    let there : slice_get ranks k ≡ Some own = slice_get_read ranks (length ranks) k own refl lt (sym at) in
    rw (in_order k own there, there) refl

-- a call of a rank is one of so many
pub number_below : (ranks : List RankCalls) (own : RankCalls) (number : ℕ) (call : Call) → AreInOrder ranks → Contains ranks own → slice_get own.calls number ≡ Some call → number < get_or (lens_of ranks) own.rank.0 0
number_below ranks own number call in_order has there =
    rw (lens_are ranks own.rank.0, calls_are_own ranks own in_order has) (slice_get_within own.calls number call there)
