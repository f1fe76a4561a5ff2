-- What is kept of the windows of a rank.
use Rattle.std.proofs.Common.{◌≡◌, ℕ, suc, ◌+◌, Bool, true, false, cond, ◌∷◌, ◌++◌, List, [], length, Option, Some, None, nat_eq, slice_get, refl, sym, ap, ◌∙◌, arith}
use Rattle.std.proofs.lemmas.Bool.{true≢false, false≢true}
use Rattle.std.proofs.Common.{Result, Ok, Err, take, drop}
use Rattle.std.proofs.Math.Seq.{drop-cons}
use Rattle.std.proofs.lemmas.Option.{slice_get_within, get_or_from_slice_get}
use Rattle.std.proofs.lemmas.List.{take_more}
use Rattle.std.specs.Prelude.{IfOk, OnOk, option_map}
use Rattle.rma_base.specs.declared.epoch_reason.EpochReason.{EpochReason}
use Rattle.rma_base.specs.declared.line.LineNo.{LineNo}
use Rattle.rma_window.specs.Windows.{Window}
use Rattle.rma_open.specs.Reason.{reason_at}
use Rattle.std.specs.Map.{lookup}
use Rattle.std.specs.List.{list_any}
use Rattle.std.specs.Option.{option_map_or, option_or}
use Rattle.std.specs.Cmp.Lexicographic.{pointwise, same_text, nat_list_eq_equiv}
use Rattle.rma_call.specs.Call.{Call}
use Rattle.rma_call.specs.declared.what.What.{What}
use Rattle.rma_open.specs.declared.open_epochs.OpenEpochs.{OpenEpochs}
use Rattle.rma_open.specs.Calls.{window_on, is_on, past_from, past_on}
use Rattle.rma_open.specs.Open.{open_after, open_on, is_unclosed}
use Rattle.rma_epoch.specs.Fault.{fault_from, leaves_open}
use Rattle.rma_open.specs.inside.Held.{open_of}
use Rattle.rma_epoch.specs.Table.{taken_with}
use Rattle.rma_open.specs.inside.Next.{past_with}
use Rattle.rma_epoch.specs.inside.Windows.{kept}
use Rattle.rma_open.proofs.TestLemmas.{all_false, none_at, or_left, or_right, same_test}

-- ---- one more call

past_from_push : (window : List ℕ) (n : ℕ) (past : List (ℕ × What)) (calls : List Call) (call : Call) →
    past_from window n past (calls ++ call ∷ []) ≡ cond (is_on window call.what) ((n + length calls, call.what) ∷ past_from window n past calls) (past_from window n past calls)
past_from_push window n past [] call = ap (λ k. cond (is_on window call.what) ((k, call.what) ∷ past) past) (let e : n ≡ n + 0 = omega arith in e)
past_from_push window n past (x ∷ xs) call =
    let next = cond (is_on window x.what) ((n, x.what) ∷ past) past in
    past_from_push window (n + 1) next xs call
    ∙ ap (λ k. cond (is_on window call.what) ((k, call.what) ∷ past_from window (n + 1) next xs) (past_from window (n + 1) next xs))
    (let e : n + 1 + length xs ≡ n + suc (length xs) = omega arith in e)

pub past_push : (window : List ℕ) (calls : List Call) (call : Call) →
    past_on window (calls ++ call ∷ []) ≡ cond (is_on window call.what) ((length calls, call.what) ∷ past_on window calls) (past_on window calls)
past_push window calls call =
    past_from_push window 0 [] calls call
    ∙ ap (λ k. cond (is_on window call.what) ((k, call.what) ∷ past_on window calls) (past_on window calls)) (let e : 0 + length calls ≡ length calls = omega arith in e)

-- a call that is on no window changes nothing
pub same_after_none : (window : List ℕ) (calls : List Call) (call : Call) → window_on call.what ≡ None → past_on window calls ≡ past_on window (calls ++ call ∷ [])
same_after_none window calls call none =
    sym (past_push window calls call ∙ ap (λ o. cond (option_map_or (pointwise nat_eq window) o false) ((length calls, call.what) ∷ past_on window calls) (past_on window calls)) none)

-- a call on one window
module _ (calls : List Call) (call : Call) (own : List ℕ) (on : window_on call.what ≡ Some own) (old new : List (List ℕ × OpenEpochs))
    (taken : (past : List (ℕ × What)) (name : List ℕ) → pointwise nat_eq own name ≡ true → kept old name ≡ open_after past → kept new name ≡ open_after ((length calls, call.what) ∷ past))
    (others : (name : List ℕ) → pointwise nat_eq own name ≡ false → kept new name ≡ kept old name)
    (are : (window : List ℕ) → kept old window ≡ open_on calls window) where
  pub kept_after : (window : List ℕ) → kept new window ≡ open_on (calls ++ call ∷ []) window
  kept_after window = by (pointwise nat_eq own window) refl
    where
      on_is : is_on window call.what ≡ pointwise nat_eq own window
      on_is = ap (λ o. option_map_or (pointwise nat_eq window) o false) on ∙ nat_list_eq_equiv.symm window own

      push : past_on window (calls ++ call ∷ []) ≡ cond (pointwise nat_eq own window) ((length calls, call.what) ∷ past_on window calls) (past_on window calls)
      push = past_push window calls call ∙ ap (λ b. cond b ((length calls, call.what) ∷ past_on window calls) (past_on window calls)) on_is

      by : (b : Bool) → pointwise nat_eq own window ≡ b → kept new window ≡ open_on (calls ++ call ∷ []) window
      by true same =
          taken (past_on window calls) window same (are window)
          ∙ ap open_after (sym (push ∙ ap (λ b. cond b ((length calls, call.what) ∷ past_on window calls) (past_on window calls)) same))
      by false differ =
          others window differ
          ∙ are window
          ∙ ap open_after (sym (push ∙ ap (λ b. cond b ((length calls, call.what) ∷ past_on window calls) (past_on window calls)) differ))

-- a call on one window, which is taken unless it has a reason
pub kept_with : (calls : List Call) (call : Call) (own : List ℕ) → window_on call.what ≡ Some own → (old new : List (List ℕ × OpenEpochs)) (reason : Option EpochReason)
    → ((past : List (ℕ × What)) (name : List ℕ) → pointwise nat_eq own name ≡ true → kept old name ≡ open_after past → kept new name ≡ open_after (past_with reason (length calls, call.what) past))
    → ((name : List ℕ) → pointwise nat_eq own name ≡ false → kept new name ≡ kept old name)
    → ((window : List ℕ) → kept old window ≡ open_on calls window) → (window : List ℕ) → kept new window ≡ open_on (taken_with reason call calls) window
kept_with calls call own on old new None taken others are window = kept_after calls call own on old new taken others are window
kept_with calls call own on old new (Some reason) taken others are window = by (pointwise nat_eq own window) refl
  where
    by : (b : Bool) → pointwise nat_eq own window ≡ b → kept new window ≡ open_on calls window
    by true same = taken (past_on window calls) window same (are window)
    by false differ = others window differ ∙ are window

-- ---- the end

-- calls that pass a test where they are on a window; where none passes, none is on it
never_on : (p : Call → Bool) (window : List ℕ) → ((call : Call) → is_on window call.what ≡ true → p call ≡ true) → (n : ℕ) (past : List (ℕ × What)) (calls : List Call) → list_any p calls ≡ false
    → past_from window n past calls ≡ past
never_on p window passes n past [] none = refl
never_on p window passes n past (call ∷ calls) none = by (is_on window call.what) refl (never_on p window passes (n + 1) past calls (or_right (p call) (list_any p calls) none))
  where
    by : (b : Bool) → is_on window call.what ≡ b → past_from window (n + 1) past calls ≡ past → past_from window (n + 1) (cond b ((n, call.what) ∷ past) past) calls ≡ past
    by true on rest = absurd (true≢false (sym (passes call on) ∙ or_left (p call) (list_any p calls) none))
    by false off rest = rest

-- a call on a window that is left open leaves it open
on_left : (calls : List Call) (window : List ℕ) → is_unclosed (open_on calls window) ≡ true → (call : Call) → is_on window call.what ≡ true → leaves_open calls call ≡ true
on_left calls window left call on = by (window_on call.what) on
  where
    by : (o : Option (List ℕ)) → option_map_or (pointwise nat_eq window) o false ≡ true → option_map_or (λ w. is_unclosed (open_on calls w)) o false ≡ true
    by None h = absurd (false≢true h)
    by (Some w) h = ap (λ v. is_unclosed (open_on calls v)) (sym (same_text window w (sym h))) ∙ left

-- a window that no call leaves open is not left open
none_left : (calls : List Call) (window : List ℕ) → list_any (leaves_open calls) calls ≡ false → is_unclosed (open_on calls window) ≡ false
none_left calls window none = by (is_unclosed (open_on calls window)) refl
  where
    by : (b : Bool) → is_unclosed (open_on calls window) ≡ b → is_unclosed (open_on calls window) ≡ false
    by true left = ap (λ past. is_unclosed (open_after past)) (never_on (leaves_open calls) window (on_left calls window left) 0 [] calls none)
    by false shut = shut

-- nothing that is kept is left open, so nothing that a look-up finds is
looked_up : (test : List ℕ → Bool) (es : List (List ℕ × OpenEpochs)) → list_any (λ (e : List ℕ × OpenEpochs). is_unclosed (open_of e.1)) es ≡ false → is_unclosed (option_map_or open_of (lookup test es) (open_after [])) ≡ false
looked_up test [] none = refl
looked_up test (e ∷ es) none = by (test e.0) (looked_up test es (or_right (is_unclosed (open_of e.1)) (list_any (λ (f : List ℕ × OpenEpochs). is_unclosed (open_of f.1)) es) none))
  where
    by : (b : Bool) → is_unclosed (option_map_or open_of (lookup test es) (open_after [])) ≡ false → is_unclosed (option_map_or open_of (cond b (Some e.1) (lookup test es)) (open_after [])) ≡ false
    by true rest = or_left (is_unclosed (open_of e.1)) (list_any (λ (f : List ℕ × OpenEpochs). is_unclosed (open_of f.1)) es) none
    by false rest = rest

-- something that is kept is left open exactly where a call is on a window that is
pub unclosed_is : (calls : List Call) (es : List (List ℕ × OpenEpochs)) → ((window : List ℕ) → kept es window ≡ open_on calls window)
    → ((i : ℕ) (e : List ℕ × OpenEpochs) → slice_get es i ≡ Some e → lookup (pointwise nat_eq e.0) es ≡ Some e.1)
    → list_any (λ (e : List ℕ × OpenEpochs). is_unclosed (open_of e.1)) es ≡ list_any (leaves_open calls) calls
unclosed_is calls es are found =
    same_test (list_any (λ (e : List ℕ × OpenEpochs). is_unclosed (open_of e.1)) es) (list_any (leaves_open calls) calls)
    (λ none. none_at (λ (e : List ℕ × OpenEpochs). is_unclosed (open_of e.1)) es (λ i e there.
    ap (λ o. is_unclosed (option_map_or open_of o (open_after []))) (sym (found i e there))
    ∙ ap is_unclosed (are e.0)
    ∙ none_left calls e.0 none))
    (λ none. all_false (leaves_open calls) calls (λ call. by none (window_on call.what)))
  where
    by : list_any (λ (e : List ℕ × OpenEpochs). is_unclosed (open_of e.1)) es ≡ false → (o : Option (List ℕ)) → option_map_or (λ w. is_unclosed (open_on calls w)) o false ≡ false
    by none None = refl
    by none (Some w) = ap is_unclosed (sym (are w)) ∙ looked_up (pointwise nat_eq w) es none

-- ---- what a call that may fail says

pub IfOk_map : {T E : Type 0} {P Q : T → Type 0} (r : Result T E) → ((x : T) → P x → Q x) → IfOk r P → IfOk r Q
IfOk_map (Ok x) f p = f x p
IfOk_map (Err e) f p = tt

pub IfOk_all : {T E : Type 0} {P Q R S : T → Type 0} (r : Result T E) → ((x : T) → P x → Q x → R x → S x) → IfOk r P → IfOk r Q → IfOk r R → IfOk r S
IfOk_all (Ok x) f p q s = f x p q s
IfOk_all (Err e) f p q s = tt

pub OnOk_always : {T E B : Type 0} (r : Result T E) → B → OnOk r B
OnOk_always (Ok x) b = b
OnOk_always (Err e) b = tt

-- ---- the first fault

-- the calls up to one, and that one
pub taken_there : (calls : List Call) (i : ℕ) (call : Call) → slice_get calls i ≡ Some call → take (i + 1) calls ≡ take i calls ++ call ∷ []
taken_there calls i call there = take_more calls i call (slice_get_within calls i call there) ∙ ap (λ y. take i calls ++ y ∷ []) (get_or_from_slice_get calls i call call there)

-- the faults from a call on
fault_step : (windows : List Window) (calls : List Call) (i : ℕ) (call : Call) (end : LineNo) → slice_get calls i ≡ Some call →
    fault_from windows (take i calls) (drop i calls) end
    ≡ option_or (option_map (λ reason. record { line = call.line; reason = reason }) (reason_at windows (take i calls) call)) (fault_from windows (take (i + 1) calls) (drop (i + 1) calls) end)
fault_step windows calls i call end there =
    let more : drop i calls ≡ call ∷ drop (suc i) calls =
    drop-cons calls i call (slice_get_within calls i call there) ∙ ap (λ x. x ∷ drop (suc i) calls) (get_or_from_slice_get calls i call call there) in
    let next : suc i ≡ i + 1 = omega arith in
    ap (λ rest. fault_from windows (take i calls) rest end) more
    ∙ ap (λ k. option_or (option_map (λ reason. record { line = call.line; reason = reason }) (reason_at windows (take i calls) call)) (fault_from windows (take i calls ++ call ∷ []) (drop k calls) end)) next
    ∙ ap (λ before. option_or (option_map (λ reason. record { line = call.line; reason = reason }) (reason_at windows (take i calls) call)) (fault_from windows before (drop (i + 1) calls) end)) (sym (taken_there calls i call there))

-- the same where that call has this reason, or none
pub fault_on : (windows : List Window) (calls : List Call) (i : ℕ) (call : Call) (end : LineNo) (reason : Option EpochReason) → slice_get calls i ≡ Some call → reason_at windows (take i calls) call ≡ reason →
    fault_from windows (take i calls) (drop i calls) end ≡ option_or (option_map (λ reason. record { line = call.line; reason = reason }) reason) (fault_from windows (take (i + 1) calls) (drop (i + 1) calls) end)
fault_on windows calls i call end reason there is =
    fault_step windows calls i call end there
    ∙ ap (λ o. option_or (option_map (λ (r : EpochReason). record { line = call.line; reason = r }) o) (fault_from windows (take (i + 1) calls) (drop (i + 1) calls) end)) is
