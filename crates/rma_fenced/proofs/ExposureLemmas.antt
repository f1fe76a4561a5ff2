-- The exposures between fences, by the fences.
use Rattle.std.proofs.Common.{◌≡◌, ℕ, zero, suc, ◌+◌, ◌<◌, Bool, true, false, ◌∷◌, ◌++◌, List, [], length, take, Option, Some, None, slice_get, refl, sym, ap, subst, ◌∙◌, arith, append-nil, append_assoc, if◌then◌else◌}
use Rattle.std.specs.Prelude.{Contains}
use Rattle.std.specs.List.{cons_option}
use Rattle.std.specs.Option.{option_and_then, option_or}
use Rattle.std.proofs.lemmas.Bool.Decides.{nat_tests}
use Rattle.std.proofs.lemmas.Option.{slice_get_within}
use Rattle.rma_base.specs.declared.line.LineNo.{LineNo}
use Rattle.rma_base.specs.declared.rank.Rank.{Rank}
use Rattle.rma_call.specs.Call.{Call}
use Rattle.rma_run.proofs.ContainLemmas.{first_or_later, has_first, has_later}
use Rattle.rma_run.proofs.WalkLemmas.{taken_length}
use Rattle.rma_window.specs.declared.window_id.WindowId.{WindowId}
use Rattle.rma_window.specs.Windows.{Window}
use Rattle.rma_rules.specs.declared.span.Exposure.{Exposure}
use Rattle.rma_rules.specs.declared.span.ExposureKind.TheVariants.{Fenced}
use Rattle.rma_fenced.specs.declared.listing.FenceCall.{FenceCall}
use Rattle.rma_fenced.specs.declared.phase.Phase.{Phase}
use Rattle.rma_fenced.specs.Fenced.{closed_by, exposure_between, exposure_with, fence_on, fenced_at, fenced_from, fenced_of, is_accessed, is_window, last_fence, last_from}
use Rattle.rma_fenced.specs.Laws.{IsBetweenFences}
use Rattle.rma_fenced.proofs.LawLemmas.{chained}

-- ---- the elements before a place

slice_taken : {X : Type 0} (xs : List X) (n k : ℕ) → k < n → slice_get (take n xs) k ≡ slice_get xs k
slice_taken xs zero k lt = absurd (omega arith)
slice_taken [] (suc n) k lt = refl
slice_taken (x ∷ xs) (suc n) zero lt = refl
slice_taken (x ∷ xs) (suc n) (suc k) lt = slice_taken xs n k (omega arith)

-- an element at a place below, and there in the whole list
before : {X : Type 0} (xs : List X) (n : ℕ) (last : X) (k : ℕ) (x : X) → slice_get xs n ≡ Some last → slice_get (take n xs) k ≡ Some x → (k < n) × (slice_get xs k ≡ Some x)
before xs n last k x there at =
    let within = slice_get_within (take n xs) k x at in
    let long = taken_length xs n last there in
    let lt : k < n = omega arith in
    (lt, sym (slice_taken xs n k lt) ∙ at)

when : {X : Type 0} (b : Bool) (x y : X) → (if b then Some x else None) ≡ Some y → (b ≡ true) × (x ≡ y)
when true x y is = (refl, cc)
when false x y is = absurd (let no : ⊥ = cc in no)

-- ---- the last fence

module _ (window : WindowId) where
  is_on : (o : Option WindowId) → o ≡ Some window → is_window window o ≡ true
  is_on o is = ap (is_window window) is ∙ (let same : window.0 ≡ window.0 = refl in grind (arith, nat_tests))

  on_is : (o : Option WindowId) → is_window window o ≡ true → o ≡ Some window
  on_is None is = absurd (let no : ⊥ = cc in no)
  on_is (Some id) is = let same : id.0 ≡ window.0 = grind (arith, nat_tests) in ap (λ n. let w : WindowId = record { 0 = n } in Some w) same

module _ (windows : List Window) (window : WindowId) where
  -- none of these calls is a fence on the window
  abbrev HasNone : List Call → Type 0
  HasNone calls = (k : ℕ) (call : Call) → slice_get calls k ≡ Some call → fence_on windows call.what ≡ Some window → ⊥

  -- the call of an index is the last one that is
  record IsLast (calls : List Call) (index : ℕ) (call : Call) : Type 0 where
    there : slice_get calls index ≡ Some call
    on : fence_on windows call.what ≡ Some window
    after : (k : ℕ) (other : Call) → index < k → slice_get calls k ≡ Some other → fence_on windows other.what ≡ Some window → ⊥

  neither : {X : Type 0} (o : Option X) (b : Bool) (x : X) → option_or o (if b then Some x else None) ≡ None → (o ≡ None) × (b ≡ false)
  neither None true x is = absurd (let no : ⊥ = cc in no)
  neither None false x is = (refl, refl)
  neither (Some y) b x is = absurd (let no : ⊥ = cc in no)

  shut : (b : Bool) → (b ≡ true → ⊥) → b ≡ false
  shut true never = absurd (never refl)
  shut false never = refl

  no_fence : (n : ℕ) (calls : List Call) → last_from windows window n calls ≡ None → HasNone calls
  no_fence n [] is = λ k call there on. (let no : ⊥ = cc in no)
  no_fence n (c ∷ cs) is = by (neither (last_from windows window (n + 1) cs) (is_window window (fence_on windows c.what)) (record { number = n; line = c.line }) is) (no_fence (n + 1) cs)
    where
      by : (last_from windows window (n + 1) cs ≡ None) × (is_window window (fence_on windows c.what) ≡ false) → (last_from windows window (n + 1) cs ≡ None → HasNone cs) → HasNone (c ∷ cs)
      by (rest, first) later zero call there on =
          let same : c ≡ call = cc in
          let is : is_window window (fence_on windows c.what) ≡ true = is_on window (fence_on windows c.what) (ap (λ (d : Call). fence_on windows d.what) same ∙ on) in
          let no : ⊥ = cc in no
      by (rest, first) later (suc k) call there on = later rest k call there on

  none_last : (n : ℕ) (calls : List Call) → HasNone calls → last_from windows window n calls ≡ None
  none_last n [] none = refl
  none_last n (c ∷ cs) none =
      let first : is_window window (fence_on windows c.what) ≡ false = shut (is_window window (fence_on windows c.what)) (λ is. none 0 c refl (on_is window (fence_on windows c.what) is)) in
      ap (λ o. option_or o (if is_window window (fence_on windows c.what) then Some (record { number = n; line = c.line }) else None)) (none_last (n + 1) cs (λ k call there. none (suc k) call there))
      ∙ ap (λ b. let own : Option FenceCall = if b then Some (record { number = n; line = c.line }) else None in own) first

  last_is : (n : ℕ) (calls : List Call) (fence : FenceCall) → last_from windows window n calls ≡ Some fence
      → (index : ℕ) × (call : Call) × (fence ≡ record { number = n + index; line = call.line }) × IsLast calls index call
  last_is n [] fence is = absurd (let no : ⊥ = cc in no)
  last_is n (c ∷ cs) fence is = by (last_from windows window (n + 1) cs) refl is (last_is (n + 1) cs fence)
    where
      at_first : (b : Bool) → is_window window (fence_on windows c.what) ≡ b → last_from windows window (n + 1) cs ≡ None → (if b then Some (record { number = n; line = c.line }) else None) ≡ Some fence
          → (index : ℕ) × (call : Call) × (fence ≡ record { number = n + index; line = call.line }) × IsLast (c ∷ cs) index call
      at_first true on none is =
          let same : record { number = n; line = c.line } ≡ fence = cc in (
            0,
            c,
            sym same ∙ ap (λ k. let f : FenceCall = record { number = k; line = c.line } in f) (let e : n ≡ n + 0 = omega arith in e),
            record {
              there = refl;
              on = on_is window (fence_on windows c.what) on;
              after = later;
            },
          )
        where
          later : (k : ℕ) (other : Call) → 0 < k → slice_get (c ∷ cs) k ≡ Some other → fence_on windows other.what ≡ Some window → ⊥
          later zero other lt there also = absurd (omega arith)
          later (suc k) other lt there also = no_fence (n + 1) cs none k other there also
      at_first false on none is = absurd (let no : ⊥ = cc in no)

      by : (o : Option FenceCall) → last_from windows window (n + 1) cs ≡ o → option_or o (if is_window window (fence_on windows c.what) then Some (record { number = n; line = c.line }) else None) ≡ Some fence
          → (last_from windows window (n + 1) cs ≡ Some fence → (index : ℕ) × (call : Call) × (fence ≡ record { number = n + 1 + index; line = call.line }) × IsLast cs index call)
          → (index : ℕ) × (call : Call) × (fence ≡ record { number = n + index; line = call.line }) × IsLast (c ∷ cs) index call
      by None none is further = at_first (is_window window (fence_on windows c.what)) refl none is
      by (Some own) rest is further = go (further (rest ∙ is))
        where
          go : (index : ℕ) × (call : Call) × (fence ≡ record { number = n + 1 + index; line = call.line }) × IsLast cs index call
              → (index : ℕ) × (call : Call) × (fence ≡ record { number = n + index; line = call.line }) × IsLast (c ∷ cs) index call
          go (index, call, same, last) = (
            suc index,
            call,
            same ∙ ap (λ k. let f : FenceCall = record { number = k; line = call.line } in f) (let e : n + 1 + index ≡ n + suc index = omega arith in e),
            record {
              there = last.there;
              on = last.on;
              after = later;
            },
          )
            where
              later : (k : ℕ) (other : Call) → suc index < k → slice_get (c ∷ cs) k ≡ Some other → fence_on windows other.what ≡ Some window → ⊥
              later zero other lt there also = absurd (omega arith)
              later (suc k) other lt there also = last.after k other (omega arith) there also

  is_last : (n : ℕ) (calls : List Call) (index : ℕ) (call : Call) → IsLast calls index call → last_from windows window n calls ≡ Some (record { number = n + index; line = call.line })
  is_last n [] index call last = absurd (let there = last.there in let no : ⊥ = cc in no)
  is_last n (c ∷ cs) zero call last =
      let there = last.there in
      let same : c ≡ call = cc in
      let none = none_last (n + 1) cs (λ k other at also. last.after (suc k) other (omega arith) at also) in
      let on = is_on window (fence_on windows c.what) (ap (λ (d : Call). fence_on windows d.what) same ∙ last.on) in
      ap (λ o. option_or o (if is_window window (fence_on windows c.what) then Some (record { number = n; line = c.line }) else None)) none
      ∙ ap (λ b. let own : Option FenceCall = if b then Some (record { number = n; line = c.line }) else None in own) on
      ∙ (let e : n ≡ n + 0 = omega arith in λ t. let f : FenceCall = record { number = e t; line = (same t).line } in Some f)
  is_last n (c ∷ cs) (suc index) call last =
      let rest = is_last (n + 1) cs index call (record { there = last.there; on = last.on; after = λ k other lt at also. last.after (suc k) other (omega arith) at also }) in
      ap (λ o. option_or o (if is_window window (fence_on windows c.what) then Some (record { number = n; line = c.line }) else None)) rest
      ∙ ap (λ k. let f : FenceCall = record { number = k; line = call.line } in Some f) (let e : n + 1 + index ≡ n + suc index = omega arith in e)

-- ---- the calls that close exposures

module _ (phases : List Phase) (windows : List Window) (rank : Rank) (exposure : Exposure) where
  in_fenced : (past calls : List Call) → Contains (fenced_from phases windows rank past calls) exposure
      → (k : ℕ) × (call : Call) × (slice_get calls k ≡ Some call) × (fenced_at phases windows rank (past ++ take k calls) call ≡ Some exposure)
  in_fenced past [] (k, lt, at) = absurd (omega arith)
  in_fenced past (c ∷ cs) has = by (fenced_at phases windows rank past c) refl has (in_fenced (past ++ c ∷ []) cs)
    where
      rest : List Exposure
      rest = fenced_from phases windows rank (past ++ c ∷ []) cs

      further : (k : ℕ) × (call : Call) × (slice_get cs k ≡ Some call) × (fenced_at phases windows rank ((past ++ c ∷ []) ++ take k cs) call ≡ Some exposure)
          → (k : ℕ) × (call : Call) × (slice_get (c ∷ cs) k ≡ Some call) × (fenced_at phases windows rank (past ++ take k (c ∷ cs)) call ≡ Some exposure)
      further (k, call, there, at) = (suc k, call, there, ap (λ b. fenced_at phases windows rank b call) (sym (append_assoc past (c ∷ []) (take k cs))) ∙ at)

      by : (o : Option Exposure) → fenced_at phases windows rank past c ≡ o → Contains (cons_option o rest) exposure
          → (Contains rest exposure → (k : ℕ) × (call : Call) × (slice_get cs k ≡ Some call) × (fenced_at phases windows rank ((past ++ c ∷ []) ++ take k cs) call ≡ Some exposure))
          → (k : ℕ) × (call : Call) × (slice_get (c ∷ cs) k ≡ Some call) × (fenced_at phases windows rank (past ++ take k (c ∷ cs)) call ≡ Some exposure)
      by None is has later = further (later has)
      by (Some first) is has later =
          first_or_later first exposure rest
          (λ same. (0, c, refl, ap (λ b. fenced_at phases windows rank b c) (append-nil past) ∙ is ∙ ap Some same))
          (λ among. further (later among))
          has

  fenced_has : (past calls : List Call) (k : ℕ) (call : Call) → slice_get calls k ≡ Some call → fenced_at phases windows rank (past ++ take k calls) call ≡ Some exposure
      → Contains (fenced_from phases windows rank past calls) exposure
  fenced_has past [] k call there at = absurd (let no : ⊥ = cc in no)
  fenced_has past (c ∷ cs) zero call there at =
      let same : c ≡ call = cc in
      let first : fenced_at phases windows rank past c ≡ Some exposure =
      ap (λ b. fenced_at phases windows rank b c) (sym (append-nil past)) ∙ ap (fenced_at phases windows rank (past ++ [])) same ∙ at in
      subst (λ o. Contains (cons_option o (fenced_from phases windows rank (past ++ c ∷ []) cs)) exposure) (sym first) (has_first exposure (fenced_from phases windows rank (past ++ c ∷ []) cs))
  fenced_has past (c ∷ cs) (suc k) call there at =
      put (fenced_at phases windows rank past c)
      (fenced_has (past ++ c ∷ []) cs k call there (ap (λ b. fenced_at phases windows rank b call) (append_assoc past (c ∷ []) (take k cs)) ∙ at))
    where
      put : (o : Option Exposure) → Contains (fenced_from phases windows rank (past ++ c ∷ []) cs) exposure → Contains (cons_option o (fenced_from phases windows rank (past ++ c ∷ []) cs)) exposure
      put None has = has
      put (Some x) has = has_later x exposure (fenced_from phases windows rank (past ++ c ∷ []) cs) has

-- ---- the exposures

module _ (phases : List Phase) (windows : List Window) (rank : Rank) (sound : List Call) where
  abbrev spanning : WindowId → ℕ → ℕ → LineNo → Exposure
  spanning window opener close line = record { window = window; target = rank; kind = Fenced; opener = opener; close = Some close; opened = line }

  closes_one : (number : ℕ) (second : Call) → slice_get sound number ≡ Some second → (window : WindowId) → fence_on windows second.what ≡ Some window
      → (index : ℕ) (first : Call) → IsLast windows window (take number sound) index first → is_accessed phases rank.0 index ≡ true
      → IsBetweenFences phases windows rank sound (record { window = window; target = rank; kind = Fenced; opener = index; close = Some number; opened = first.line })
  closes_one number second there window on index first last accessed =
      let opens = before sound number second index first there last.there in
      record {
        first = first;
        opens = opens.1;
        first_is_fence = last.on;
        number = number;
        close = refl;
        second = second;
        closes = there;
        second_is_fence = on;
        later = opens.0;
        none_between = λ k call above below at also. last.after k call above (slice_taken sound number k below ∙ at) also;
        accessed = accessed;
        target = refl;
        kind = refl;
        line = refl;
      }

  from_last : (exposure : Exposure) (number : ℕ) (second : Call) → slice_get sound number ≡ Some second → (window : WindowId) → fence_on windows second.what ≡ Some window
      → (fence : FenceCall) → exposure_between phases rank window fence (length (take number sound)) ≡ Some exposure
      → (index : ℕ) × (first : Call) × (fence ≡ record { number = 0 + index; line = first.line }) × IsLast windows window (take number sound) index first
      → IsBetweenFences phases windows rank sound exposure
  from_last exposure number second there window on fence is (index, first, same, last) =
      let (accessed, one) = when (is_accessed phases rank.0 fence.number) (exposure_with rank window fence (length (take number sound))) exposure is in
      let long = taken_length sound number second there in
      let opener : fence.number ≡ index = ap (λ (f : FenceCall). f.number) same ∙ (let e : 0 + index ≡ index = omega arith in e) in
      let line : fence.line ≡ first.line = ap (λ (f : FenceCall). f.line) same in
      let made : spanning window index number first.line ≡ exposure = (λ t. spanning window (sym opener t) (sym long t) (sym line t)) ∙ one in
      subst (IsBetweenFences phases windows rank sound) made
      (closes_one number second there window on index first last (subst (λ n. is_accessed phases rank.0 n ≡ true) opener accessed))

  from_call : (exposure : Exposure) (number : ℕ) (second : Call) → slice_get sound number ≡ Some second → fenced_at phases windows rank (take number sound) second ≡ Some exposure
      → IsBetweenFences phases windows rank sound exposure
  from_call exposure number second there at =
      let closes = λ (window : WindowId). closed_by phases rank (length (take number sound)) window (last_fence windows (take number sound) window) in
      let (window, on, closed) = chained closes (fence_on windows second.what) exposure at in
      let (fence, last, between) = chained (λ (first : FenceCall). exposure_between phases rank window first (length (take number sound))) (last_fence windows (take number sound) window) exposure closed in
      from_last exposure number second there window on fence between (last_is windows window 0 (take number sound) fence last)

  pub fenced_is : (exposure : Exposure) → Contains (fenced_of phases windows rank sound) exposure → IsBetweenFences phases windows rank sound exposure
  fenced_is exposure has =
      let (number, second, there, at) = in_fenced phases windows rank exposure [] sound has in
      from_call exposure number second there at

  pub is_fenced : (exposure : Exposure) → IsBetweenFences phases windows rank sound exposure → Contains (fenced_of phases windows rank sound) exposure
  is_fenced exposure is =
      let past = take is.number sound in
      let last : IsLast windows exposure.window past exposure.opener is.first = record {
        there = slice_taken sound is.number exposure.opener is.later ∙ is.opens;
        on = is.first_is_fence;
        after = λ k other above at also. (let both = before sound is.number is.second k other is.closes at in is.none_between k other above both.0 both.1 also);
      } in
      let fence : FenceCall = record { number = 0 + exposure.opener; line = is.first.line } in
      let opener : 0 + exposure.opener ≡ exposure.opener = omega arith in
      let accessed : is_accessed phases rank.0 (0 + exposure.opener) ≡ true = ap (is_accessed phases rank.0) opener ∙ is.accessed in
      let closed : Some (length past) ≡ exposure.close = ap Some (taken_length sound is.number is.second is.closes) ∙ sym is.close in
      let at : fenced_at phases windows rank past is.second ≡ Some exposure =
      ap (option_and_then (λ window. closed_by phases rank (length past) window (last_fence windows past window))) is.second_is_fence
      ∙ ap (closed_by phases rank (length past) exposure.window) (is_last windows exposure.window 0 past exposure.opener is.first last)
      ∙ ap (λ b. if b then Some (exposure_with rank exposure.window fence (length past)) else None) accessed
      ∙ (λ t. let e : Exposure = record { window = exposure.window; target = sym is.target t; kind = sym is.kind t; opener = opener t; close = closed t; opened = sym is.line t } in Some e) in
      fenced_has phases windows rank exposure [] sound is.number is.second is.closes at
