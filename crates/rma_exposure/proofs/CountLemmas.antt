-- Ranks that open as many epochs as match those of another.
use Rattle.std.proofs.Common.{◌≡◌, ℕ, zero, suc, ◌+◌, ◌<◌, Bool, true, false, cond, ◌∷◌, ◌++◌, List, [], length, Option, Some, None, nat_eq, get_or, slice_get, refl, sym, ap, subst, ◌∙◌, arith}
use Rattle.std.specs.Prelude.{Contains, All, is_none}
use Rattle.std.specs.Map.{lookup}
use Rattle.std.specs.Cmp.Lexicographic.{pointwise, same_text, nat_list_eq_equiv}
use Rattle.std.proofs.lemmas.Bool.{eqb-true}
use Rattle.std.proofs.lemmas.List.Folds.{list_any_none}
use Rattle.std.proofs.lemmas.Map.Views.{Contains-from_lookup}
use Rattle.std.proofs.lemmas.Option.{slice_get-get_or, slice_get_read, get_or_from_slice_get}
use Rattle.rma_base.specs.RankSet.{has_number}
use Rattle.rma_base.proofs.RankSetLemmas.{has_number_at}
use Rattle.rma_base.specs.declared.rank.Rank.{Rank}
use Rattle.rma_call.specs.Call.{Call}
use Rattle.rma_run.specs.Run.{by_number}
use Rattle.rma_run.proofs.ContainLemmas.{has_first, has_later}
use Rattle.rma_run.proofs.PositionLemmas.{position_at}
use Rattle.rma_exposure.specs.declared.side.Side.{Side}
use Rattle.rma_exposure.specs.declared.openings.Openings.{Openings}
use Rattle.rma_exposure.specs.Opening.{Opening, opened, opens_with, opposite}
use Rattle.rma_exposure.specs.Matching.{numbers_from, numbers, match_of}
use Rattle.rma_exposure.specs.Fault.{lacks_match, faults_at}
use Rattle.rma_exposure.specs.inside.Epochs.{kept, listed, numbers_in, HavePartners}
use Rattle.rma_exposure.proofs.PositionLemmas.{rises}

module _ (side : Side) (window : List ℕ) (other : ℕ) where
  -- a call that opens an epoch has its number among theirs
  numbers_have : (n : ℕ) (calls : List Call) (k : ℕ) (call : Call) → slice_get calls k ≡ Some call → opens_with side window other call ≡ true → Contains (numbers_from side window other n calls) (n + k)
  numbers_have n [] k call there opens = absurd (cc)
  numbers_have n (c ∷ cs) zero call there opens =
      let is : c ≡ call = cc in
      rw (is, opens) (subst (Contains (n ∷ numbers_from side window other (n + 1) cs)) (let e : n ≡ n + 0 = omega arith in e) (has_first n (numbers_from side window other (n + 1) cs)))
  numbers_have n (c ∷ cs) (suc k) call there opens =
      by (opens_with side window other c) (subst (Contains (numbers_from side window other (n + 1) cs)) (let e : n + 1 + k ≡ n + suc k = omega arith in e) (numbers_have (n + 1) cs k call there opens))
    where
      by : (b : Bool) → Contains (numbers_from side window other (n + 1) cs) (n + suc k) → Contains (cond b (n ∷ numbers_from side window other (n + 1) cs) (numbers_from side window other (n + 1) cs)) (n + suc k)
      by true has = has_later n (n + suc k) (numbers_from side window other (n + 1) cs) has
      by false has = has

  -- so it has a match where the other rank has as many
  match_there : (calls : ℕ → List Call) (rank number : ℕ) (call : Call) → slice_get (calls rank) number ≡ Some call → opens_with side window other call ≡ true → HavePartners side window calls rank →
      is_none (match_of side window calls rank number other) ≡ false
  match_there calls rank number call there opens have =
      let own = numbers side window other (calls rank) in
      let theirs = numbers (opposite side) window rank (calls other) in
      let (i, lt, at) = numbers_have 0 (calls rank) number call there opens in
      let read : slice_get own i ≡ Some (0 + number) = slice_get_read own (length own) i (0 + number) refl lt (sym at) in
      let is : get_or own i 0 ≡ number = get_or_from_slice_get own i (0 + number) 0 read ∙ (let e : 0 + number ≡ number = omega arith in e) in
      let enough = have other in
      let lt_theirs : i < length theirs = omega arith in
      rw (position_at number own i (rises side window other (calls rank)) lt is, slice_get-get_or theirs i 0 lt_theirs) refl

-- a rank whose openings all have partners is not at fault
pub no_faults : (side : Side) (calls : ℕ → List Call) (rank : Rank) (number : ℕ) (call : Call) → ((window : List ℕ) → HavePartners side window calls rank.0) → slice_get (calls rank.0) number ≡ Some call →
    faults_at side calls rank number call ≡ []
no_faults side calls rank number call have there = by (opened side call.what) refl
  where
    by : (o : Option Opening) → opened side call.what ≡ o → faults_at side calls rank number call ≡ []
    by None is = rw is refl
    by (Some opening) is =
        let each : All (λ m. is_none (match_of side opening.window calls rank.0 number m) ≡ false) opening.group =
        (λ k d lt.
        let m = get_or opening.group k d in
        let has : has_number m opening.group ≡ true = has_number_at opening.group m k lt (get_or_from_slice_get opening.group k m 0 (slice_get-get_or opening.group k d lt)) in
        let opens : opens_with side opening.window m call ≡ true = rw (is, nat_list_eq_equiv.refl opening.window) has in
        match_there side opening.window m calls rank.0 number call there opens (have opening.window)) in
        let none : lacks_match side calls rank.0 number opening ≡ false = list_any_none (λ m. is_none (match_of side opening.window calls rank.0 number m)) opening.group each in
        rw (is, none) refl

nothing_from : {Y : Type 0} (f : ℕ → Call → List Y) (n : ℕ) (calls : List Call) → ((i : ℕ) (call : Call) → slice_get calls i ≡ Some call → f (n + i) call ≡ []) → by_number f n calls ≡ []
nothing_from f n [] none = refl
nothing_from f n (c ∷ cs) none =
    ap (λ l. l ++ by_number f (n + 1) cs) (subst (λ k. f k c ≡ []) (let e : n + 0 ≡ n = omega arith in e) (none 0 c refl))
    ∙ nothing_from f (n + 1) cs (λ i call at. subst (λ k. f k call ≡ []) (let e : n + suc i ≡ n + 1 + i = omega arith in e) (none (suc i) call at))

-- where nothing is had of any call
pub nothing_had : {Y : Type 0} (f : ℕ → Call → List Y) (calls : List Call) → ((i : ℕ) (call : Call) → slice_get calls i ≡ Some call → f i call ≡ []) → by_number f 0 calls ≡ []
nothing_had f calls none = nothing_from f 0 calls (λ i call at. subst (λ k. f k call ≡ []) (let e : i ≡ 0 + i = omega arith in e) (none i call at))

-- what holds of all that is kept by a rank, or by a window, holds of what is found
pub listed_all : (P : ℕ → ℕ → Type 0) (entries : List (ℕ × List ℕ)) → ((other : ℕ) → P other 0) → All (λ e. P e.0 (length e.1)) entries → (other : ℕ) → P other (length (listed entries other))
listed_all P entries none all other = by (lookup (nat_eq other) entries) refl
  where
    by : (o : Option (List ℕ)) → lookup (nat_eq other) entries ≡ o → P other (length (listed entries other))
    by None is = rw is (none other)
    by (Some own) is =
        let (k, lt, at) = Contains-from_lookup {eq = nat_eq} eqb-true other own entries is in
        rw is (subst (λ e. P e.0 (length e.1)) at (all k (other, own) lt))

pub kept_all : (P : List ℕ → ℕ → ℕ → Type 0) (windows : List (List ℕ × Openings)) → ((window : List ℕ) (other : ℕ) → P window other 0) → All (λ e. (other : ℕ) → P e.0 other (length (numbers_in (Some e.1) other))) windows →
    (window : List ℕ) (other : ℕ) → P window other (length (numbers_in (kept windows window) other))
kept_all P windows none all window other = by (kept windows window) refl
  where
    by : (o : Option Openings) → kept windows window ≡ o → P window other (length (numbers_in (kept windows window) other))
    by None is = rw is (none window other)
    by (Some openings) is =
        let (k, lt, at) = Contains-from_lookup {eq = pointwise nat_eq} (λ a b same. same_text a b (sym same)) window openings windows is in
        rw is (subst (λ e. (other : ℕ) → P e.0 other (length (numbers_in (Some e.1) other))) at (all k (window, openings) lt) other)
