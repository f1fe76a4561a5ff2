-- What is kept of a run, with more calls of a rank.
use Rattle.std.proofs.Common.{◌≡◌, ℕ, zero, suc, ◌+◌, ◌<◌, ◌≤◌, Bool, true, false, cond, ◌∷◌, ◌++◌, List, [], length, Option, Some, None, nat_eq, take, append_assoc, refl, sym, ap, subst, ◌∙◌, arith, ◌^◌}
use Rattle.std.specs.Prelude.{slice_get, IfSome, option_map}
use Rattle.std.specs.Option.{option_and_then, option_map_or}
use Rattle.rma_base.specs.Limits.{fed_limit}
use Rattle.std.proofs.lemmas.Bool.{eqb-true}
use Rattle.rma_base.specs.declared.rank.Rank.{Rank}
use Rattle.rma_call.specs.Call.{Call, RankCalls}
use Rattle.rma_call.specs.Group.{group_of}
use Rattle.rma_call.specs.declared.group.Group.TheVariants as group
use Rattle.rma_call.specs.declared.what.What.{What}
use Rattle.rma_call.specs.declared.what.What.TheVariants.{Sync, Rma, Local}
use Rattle.rma_call.specs.declared.what.SyncCall.TheVariants as sync
use Rattle.rma_exposure.specs.declared.rank_epochs.RankEpochs.{RankEpochs}
use Rattle.rma_exposure.specs.inside.Epochs.{kept_of, IsNeither, IsOfRank, Represents}
use Rattle.rma_exposure.specs.declared.side.Side.{Side}
use Rattle.rma_exposure.specs.declared.exposures.Exposures.{Exposures}
use Rattle.rma_exposure.specs.Opening.{Opening, opened, opens_on, closes_on}
use Rattle.rma_exposure.specs.Closing.{first_closing, closing_at, closing_of}
use Rattle.rma_run.specs.Run.{with_calls, calls_of}
use Rattle.rma_run.proofs.CallLemmas.{none_more, next_calls}
use Rattle.rma_exposure.proofs.EpochLemmas.{IsOfRank_same}

-- more calls of a rank, of which alone something changes
pub more_of_rank : (calls : ℕ → List Call) (rank : Rank) (more : List Call) (old new : List (Rank × RankEpochs)) →
    IsOfRank (calls rank.0 ++ more) (kept_of new rank.0) → ((other : Rank) → nat_eq rank.0 other.0 ≡ false → kept_of new other.0 ≡ kept_of old other.0) →
    ((other : ℕ) → IsOfRank (calls other) (kept_of old other)) → (other : ℕ) → IsOfRank (with_calls calls rank.0 more other) (kept_of new other)
more_of_rank calls rank more old new own others are other = by (nat_eq rank.0 other) refl
  where
    by : (b : Bool) → nat_eq rank.0 other ≡ b → IsOfRank (with_calls calls rank.0 more other) (kept_of new other)
    by true same = rw same (subst (λ r. IsOfRank (calls r ++ more) (kept_of new r)) (eqb-true rank.0 other same) own)
    by false differ = rw differ (subst (IsOfRank (calls other)) (sym (others (record { 0 = other }) differ)) (are other))

-- a call that opens and closes nothing
pub Represents_same : (calls : ℕ → List Call) (rank : ℕ) (call : Call) (exposures : Exposures) → IsNeither call.what →
    Represents calls exposures → Represents (with_calls calls rank (call ∷ [])) exposures
Represents_same calls rank call exposures not are other = by (nat_eq rank other)
  where
    by : (b : Bool) → IsOfRank (cond b (calls other ++ call ∷ []) (calls other)) (kept_of exposures.ranks.entries other)
    by true = IsOfRank_same (calls other) call (kept_of exposures.ranks.entries other) not (are other)
    by false = are other

-- a call of another group does not
pub other_is_neither : (what : What) → (group_of what ≡ group.Epoch → ⊥) → IsNeither what
other_is_neither (Sync (sync.Frame call)) other = record { no_post = refl; no_wait = refl; no_start = refl; no_complete = refl }
other_is_neither (Sync (sync.Message call)) other = record { no_post = refl; no_wait = refl; no_start = refl; no_complete = refl }
other_is_neither (Sync (sync.Window call)) other = record { no_post = refl; no_wait = refl; no_start = refl; no_complete = refl }
other_is_neither (Sync (sync.Epoch call)) other = absurd (other refl)
other_is_neither (Sync (sync.Moving call)) other = record { no_post = refl; no_wait = refl; no_start = refl; no_complete = refl }
other_is_neither (Rma call) other = record { no_post = refl; no_wait = refl; no_start = refl; no_complete = refl }
other_is_neither (Local call) other = record { no_post = refl; no_wait = refl; no_start = refl; no_complete = refl }

-- the same calls of each rank
pub Represents_along : (f g : ℕ → List Call) (exposures : Exposures) → ((rank : ℕ) → f rank ≡ g rank) → Represents f exposures → Represents g exposures
Represents_along f g exposures same are = λ rank. subst (λ calls. IsOfRank calls (kept_of exposures.ranks.entries rank)) (same rank) (are rank)

-- with calls that open and close nothing
pub Represents_others : (own : List Call) (calls : ℕ → List Call) (rank : ℕ) (exposures : Exposures) → ((i : ℕ) (call : Call) → slice_get own i ≡ Some call → IsNeither call.what) →
    Represents calls exposures → Represents (with_calls calls rank own) exposures
Represents_others [] calls rank exposures others are = Represents_along calls (with_calls calls rank []) exposures (none_more calls rank) are
Represents_others (call ∷ own) calls rank exposures others are =
    let one = Represents_same calls rank call exposures (others 0 call refl) are in
    Represents_along (with_calls (with_calls calls rank (call ∷ [])) rank own) (with_calls calls rank (call ∷ own)) exposures (λ other. by (nat_eq rank other) other)
    (Represents_others own (with_calls calls rank (call ∷ [])) rank exposures (λ i c at. others (suc i) c at) one)
  where
    by : (b : Bool) (other : ℕ) → cond b (cond b (calls other ++ call ∷ []) (calls other) ++ own) (cond b (calls other ++ call ∷ []) (calls other)) ≡ cond b (calls other ++ call ∷ own) (calls other)
    by true other = append_assoc (calls other) (call ∷ []) own
    by false other = refl

-- what a call does, by its number
pub call_of_what : (o : Option Call) (what : What) → Some what ≡ option_map (λ call. call.what) o → (call : Call) × (o ≡ Some call) × (what ≡ call.what)
call_of_what None what is = absurd (cc)
call_of_what (Some call) what is = (call, refl, let same : what ≡ call.what = cc in same)

-- the calls of one more rank
pub Represents_next : (ranks : List RankCalls) (i : ℕ) (own : RankCalls) (exposures : Exposures) → slice_get ranks i ≡ Some own → own.rank.0 ≡ i →
    Represents (with_calls (calls_of (take i ranks)) own.rank.0 own.calls) exposures → Represents (calls_of (take (i + 1) ranks)) exposures
Represents_next ranks i own exposures there is are =
    Represents_along (with_calls (calls_of (take i ranks)) own.rank.0 own.calls) (calls_of (take (i + 1) ranks)) exposures (next_calls ranks i own there is) are

-- the calls of a rank of the run
pub own_calls : (ranks : List RankCalls) (i : ℕ) (own : RankCalls) → slice_get ranks i ≡ Some own → own.rank.0 ≡ i → calls_of ranks own.rank.0 ≡ own.calls
own_calls ranks i own there is = ap (calls_of ranks) is ∙ ap (λ o. option_map_or (λ (r : RankCalls). r.calls) o []) there

-- what is kept of a rank of the run
pub own_of_run : (ranks : List RankCalls) (i : ℕ) (own : RankCalls) (exposures : Exposures) → slice_get ranks i ≡ Some own → own.rank.0 ≡ i → Represents (calls_of ranks) exposures →
    IsOfRank own.calls (kept_of exposures.ranks.entries own.rank.0)
own_of_run ranks i own exposures there is are =
    subst (λ l. IsOfRank l (kept_of exposures.ranks.entries own.rank.0)) (own_calls ranks i own there is) (are own.rank.0)

-- ---- closing calls are calls of the rank

below_more : (n m : ℕ) (o : Option ℕ) → IfSome o (λ j. j < n + 1 + m) → IfSome o (λ j. j < n + suc m)
below_more n m None lt = tt
below_more n m (Some j) lt = omega arith

first_below : (side : Side) (window : List ℕ) (n : ℕ) (calls : List Call) → IfSome (first_closing side window n calls) (λ j. j < n + length calls)
first_below side window n [] = tt
first_below side window n (c ∷ cs) = by (closes_on side window c) (opens_on side window c) (first_below side window (n + 1) cs)
  where
    by : (a b : Bool) → IfSome (first_closing side window (n + 1) cs) (λ j. j < n + 1 + length cs) → IfSome (cond a (Some n) (cond b None (first_closing side window (n + 1) cs))) (λ j. j < n + suc (length cs))
    by true b rest = omega arith
    by false true rest = tt
    by false false rest = below_more n (length cs) (first_closing side window (n + 1) cs) rest

closing_at_below : (side : Side) (n : ℕ) (calls : List Call) (i : ℕ) → IfSome (closing_at side n calls i) (λ j. j < n + length calls)
closing_at_below side n [] i = tt
closing_at_below side n (c ∷ cs) zero = by (opened side c.what)
  where
    by : (o : Option Opening) → IfSome (option_and_then (λ (opening : Opening). first_closing side opening.window (n + 1) cs) o) (λ j. j < n + suc (length cs))
    by None = tt
    by (Some opening) = below_more n (length cs) (first_closing side opening.window (n + 1) cs) (first_below side opening.window (n + 1) cs)
closing_at_below side n (c ∷ cs) (suc i) = below_more n (length cs) (closing_at side (n + 1) cs i) (closing_at_below side (n + 1) cs i)

pub closing_below : (side : Side) (calls : List Call) (i : ℕ) (found : Option ℕ) → found ≡ closing_of side calls i → length calls ≤ fed_limit → IfSome found (λ j. j < 2 ^ 31)
closing_below side calls i found is few = by found (subst (λ o. IfSome o (λ j. j < 0 + length calls)) (sym is) (closing_at_below side 0 calls i))
  where
    by : (o : Option ℕ) → IfSome o (λ j. j < 0 + length calls) → IfSome o (λ j. j < 2 ^ 31)
    by None lt = tt
    by (Some j) lt = omega arith
