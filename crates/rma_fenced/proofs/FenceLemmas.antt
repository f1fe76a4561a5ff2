-- The fences of a rank, and the exposures between them, with one more call.
use Rattle.std.proofs.Common.{◌≡◌, ℕ, suc, ◌+◌, Bool, true, false, ◌∷◌, ◌++◌, List, [], length, take, Option, Some, None, slice_get, refl, sym, ap, ◌∙◌, arith, append-nil, append_assoc, if◌then◌else◌}
use Rattle.std.specs.List.{cons_option}
use Rattle.std.specs.Option.{option_and_then, option_or}
use Rattle.rma_base.specs.declared.rank.Rank.{Rank}
use Rattle.rma_call.specs.Call.{Call}
use Rattle.rma_run.proofs.WalkLemmas.{taken_there, taken_length}
use Rattle.rma_window.specs.declared.window_id.WindowId.{WindowId}
use Rattle.rma_window.specs.Windows.{Window}
use Rattle.rma_rules.specs.Spans.{Spans}
use Rattle.rma_fenced.specs.declared.listing.FenceCall.{FenceCall}
use Rattle.rma_fenced.specs.declared.phase.Phase.{Phase}
use Rattle.rma_fenced.specs.Fenced.{HasSame, closed_by, exposure_between, exposure_with, fence_on, fenced_at, fenced_from, fenced_of, is_window, last_fence, last_from, with_fenced}
use Rattle.rma_fenced.specs.inside.Fences.{last_in, with_exposure}

-- ---- the last fence

module _ (windows : List Window) (window : WindowId) where
  fence_at : Call → ℕ → FenceCall
  fence_at call number = record { number = number; line = call.line }

  choose : (b : Bool) (first : FenceCall) (rest other : Option FenceCall) → option_or (if b then Some first else rest) other ≡ (if b then Some first else option_or rest other)
  choose true first rest other = refl
  choose false first rest other = refl

  last_more : (n : ℕ) (calls : List Call) (call : Call)
      → last_from windows window n (calls ++ call ∷ []) ≡ (if is_window window (fence_on windows call.what) then Some (record { number = n + length calls; line = call.line }) else last_from windows window n calls)
  last_more n [] call = ap (λ k. if is_window window (fence_on windows call.what) then Some (record { number = k; line = call.line }) else None) (let e : n ≡ n + 0 = omega arith in e)
  last_more n (c ∷ cs) call =
      let test = is_window window (fence_on windows call.what) in
      let other : Option FenceCall = if is_window window (fence_on windows c.what) then Some (record { number = n; line = c.line }) else None in
      ap (λ o. option_or o other) (last_more (n + 1) cs call)
      ∙ choose test (record { number = n + 1 + length cs; line = call.line }) (last_from windows window (n + 1) cs) other
      ∙ ap (λ k. if test then Some (record { number = k; line = call.line }) else last_from windows window n (c ∷ cs)) (let e : n + 1 + length cs ≡ n + suc (length cs) = omega arith in e)

  -- the last fence among the calls up to one more
  pub last_taken : (calls : List Call) (i : ℕ) (call : Call) → slice_get calls i ≡ Some call
      → last_fence windows (take (i + 1) calls) window ≡ (if is_window window (fence_on windows call.what) then Some (record { number = i; line = call.line }) else last_fence windows (take i calls) window)
  last_taken calls i call there =
      let long = taken_length calls i call there in
      ap (λ l. last_from windows window 0 l) (taken_there calls i call there)
      ∙ last_more 0 (take i calls) call
      ∙ ap (λ k. if is_window window (fence_on windows call.what) then Some (record { number = k; line = call.line }) else last_fence windows (take i calls) window) (let e : 0 + length (take i calls) ≡ i = omega arith in e)

-- ---- the exposures

cons_append : {X : Type 0} (o : Option X) (xs ys : List X) → cons_option o (xs ++ ys) ≡ cons_option o xs ++ ys
cons_append None xs ys = refl
cons_append (Some x) xs ys = refl

module _ (phases : List Phase) (windows : List Window) (rank : Rank) where
  fenced_more : (before calls : List Call) (call : Call)
      → fenced_from phases windows rank before (calls ++ call ∷ []) ≡ fenced_from phases windows rank before calls ++ cons_option (fenced_at phases windows rank (before ++ calls) call) []
  fenced_more before [] call = ap (λ b. cons_option (fenced_at phases windows rank b call) []) (sym (append-nil before))
  fenced_more before (c ∷ cs) call =
      let first = fenced_at phases windows rank before c in
      let last = λ (b : List Call). cons_option (fenced_at phases windows rank b call) [] in
      ap (cons_option first) (fenced_more (before ++ c ∷ []) cs call)
      ∙ cons_append first (fenced_from phases windows rank (before ++ c ∷ []) cs) (last ((before ++ c ∷ []) ++ cs))
      ∙ ap (λ b. cons_option first (fenced_from phases windows rank (before ++ c ∷ []) cs) ++ last b) (append_assoc before (c ∷ []) cs)

  -- those of the calls up to one more
  pub fenced_taken : (spans : Spans) (calls : List Call) (i : ℕ) (call : Call) → slice_get calls i ≡ Some call
      → with_exposure (with_fenced spans phases windows rank (take i calls)) (fenced_at phases windows rank (take i calls) call) ≡ with_fenced spans phases windows rank (take (i + 1) calls)
  fenced_taken spans calls i call there =
      let f = fenced_from phases windows rank [] in
      let more = cons_option (fenced_at phases windows rank (take i calls) call) [] in
      let all : (spans.exposures ++ f (take i calls)) ++ more ≡ spans.exposures ++ f (take (i + 1) calls) =
      append_assoc spans.exposures (f (take i calls)) more
      ∙ ap (λ l. spans.exposures ++ l) (sym (fenced_more [] (take i calls) call) ∙ ap f (sym (taken_there calls i call there))) in
      ap (λ l. record spans { exposures = l }) all

  -- the exposure that a call closes, by the last fences that are kept
  pub closed_is : (fences : List (WindowId × FenceCall)) (calls : List Call) (i : ℕ) (call : Call) (own : Option WindowId) → slice_get calls i ≡ Some call → own ≡ fence_on windows call.what
      → ((window : WindowId) → last_in fences window ≡ last_fence windows (take i calls) window)
      → option_and_then (λ id. closed_by phases rank i id (last_in fences id)) own ≡ fenced_at phases windows rank (take i calls) call
  closed_is fences calls i call own there is kept = by own is
    where
      by : (o : Option WindowId) → o ≡ fence_on windows call.what → option_and_then (λ id. closed_by phases rank i id (last_in fences id)) o ≡ fenced_at phases windows rank (take i calls) call
      by None is = ap (option_and_then (λ id. closed_by phases rank (length (take i calls)) id (last_fence windows (take i calls) id))) is
      by (Some window) is =
          ap (closed_by phases rank i window) (kept window)
          ∙ ap (λ k. closed_by phases rank k window (last_fence windows (take i calls) window)) (sym (taken_length calls i call there))
          ∙ ap (option_and_then (λ id. closed_by phases rank (length (take i calls)) id (last_fence windows (take i calls) id))) is

-- where no access stands in a phase, there are none
module _ (windows : List Window) (rank : Rank) where
  nothing : {X Y : Type 0} (o : Option X) (f : X → Option Y) → ((x : X) → f x ≡ None) → option_and_then f o ≡ None
  nothing None f none = refl
  nothing (Some x) f none = none x

  none_at : (before : List Call) (call : Call) → fenced_at [] windows rank before call ≡ None
  none_at before call =
      nothing (fence_on windows call.what) (λ window. closed_by [] rank (length before) window (last_fence windows before window))
      (λ window. nothing (last_fence windows before window) (λ first. exposure_between [] rank window first (length before)) (λ first. refl))

  none_from : (before calls : List Call) → fenced_from [] windows rank before calls ≡ []
  none_from before [] = refl
  none_from before (c ∷ cs) =
      ap (λ o. cons_option o (fenced_from [] windows rank (before ++ c ∷ []) cs)) (none_at before c) ∙ none_from (before ++ c ∷ []) cs

  pub none_fenced : (spans : Spans) (phases : List Phase) (calls : List Call) → phases ≡ [] → spans ≡ with_fenced spans phases windows rank calls
  none_fenced spans phases calls is =
      let none : fenced_of phases windows rank calls ≡ [] = ap (λ p. fenced_of p windows rank calls) is ∙ none_from [] calls in
      ap (λ l. record spans { exposures = l }) (sym (ap (λ l. spans.exposures ++ l) none ∙ append-nil spans.exposures))

-- by lists that have the same phases, they are the same
module _ (phases others : List Phase) (windows : List Window) (rank : Rank) (same : HasSame phases others) where
  same_between : (window : WindowId) (first : FenceCall) (second : ℕ) → exposure_between phases rank window first second ≡ exposure_between others rank window first second
  same_between window first second = ap (λ b. if b then Some (exposure_with rank window first second) else None) (same rank.0 first.number)

  same_closed : (second : ℕ) (window : WindowId) (last : Option FenceCall) → closed_by phases rank second window last ≡ closed_by others rank second window last
  same_closed second window None = refl
  same_closed second window (Some first) = same_between window first second

  same_then : {X Y : Type 0} (f g : X → Option Y) → ((x : X) → f x ≡ g x) → (o : Option X) → option_and_then f o ≡ option_and_then g o
  same_then f g each None = refl
  same_then f g each (Some x) = each x

  same_at : (before : List Call) (call : Call) → fenced_at phases windows rank before call ≡ fenced_at others windows rank before call
  same_at before call =
      same_then (λ window. closed_by phases rank (length before) window (last_fence windows before window)) (λ window. closed_by others rank (length before) window (last_fence windows before window))
      (λ window. same_closed (length before) window (last_fence windows before window))
      (fence_on windows call.what)

  pub same_fenced : (before calls : List Call) → fenced_from phases windows rank before calls ≡ fenced_from others windows rank before calls
  same_fenced before [] = refl
  same_fenced before (c ∷ cs) =
      ap (λ o. cons_option o (fenced_from phases windows rank (before ++ c ∷ []) cs)) (same_at before c)
      ∙ ap (cons_option (fenced_at others windows rank before c)) (same_fenced (before ++ c ∷ []) cs)
