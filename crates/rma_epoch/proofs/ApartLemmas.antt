-- One kind of epoch alone is open on a window after sound calls.
use Rattle.std.proofs.Common.{◌≡◌, ℕ, zero, suc, Bool, true, false, cond, ◌||◌, ◌∷◌, ◌++◌, List, [], length, take, Option, Some, None, nat_eq, slice_get, ◌⊎◌, inl, inr, refl, sym, ap, subst, ◌∙◌, append_assoc}
use Rattle.std.proofs.lemmas.Bool.{true≢false, false≢true}
use Rattle.std.proofs.lemmas.List.{append-nil}
use Rattle.std.proofs.lemmas.Option.{none-some}
use Rattle.std.specs.Prelude.{find, is_none, is_some, option_map, unwrap_or}
use Rattle.std.specs.List.{list_any}
use Rattle.std.specs.Option.{option_and_then, option_map_or}
use Rattle.std.specs.Cmp.Lexicographic.{pointwise, same_text}
use Rattle.rma_base.specs.declared.epoch_reason.EpochReason.{EpochReason}
use Rattle.rma_base.specs.declared.epoch_reason.EpochReason.TheVariants.{AccessOverlap, FenceInEpoch}
use Rattle.rma_call.specs.Call.{Call}
use Rattle.rma_call.specs.declared.what.What.{What}
use Rattle.rma_call.specs.declared.what.What.TheVariants.{Sync, Rma, Local}
use Rattle.rma_call.specs.declared.what.SyncCall.TheVariants.{Frame, Message, Window, Epoch, Moving}
use Rattle.rma_call.specs.declared.epoch.EpochCall.TheVariants.{Fence, Post, Start, Complete, Expwait, Lock, Unlock, LockAll, UnlockAll, Flush, FlushAll, FlushLocal, FlushLocalAll}
use Rattle.rma_call.specs.declared.epoch.EpochCall.TheVariants as epoch
use Rattle.rma_window.specs.Windows as table
use Rattle.rma_open.specs.declared.opening.FencePhase.{FencePhase}
use Rattle.rma_open.specs.declared.opening.HeldLock.{HeldLock}
use Rattle.rma_open.specs.Calls.{is_on, past_on, window_on}
use Rattle.rma_open.specs.Open.{Open, is_held, left_by, lock_of, of_lock, of_lock_all, of_start, open_after, open_on}
use Rattle.rma_open.specs.Reason.{all_reasons, fence_in_epoch, holds, is_accessing, reason_at, reason_in}
use Rattle.rma_epoch.specs.Table.{sound_from}
use Rattle.rma_open.specs.inside.Next.{kept_if_used, next_phase, with_use}
use Rattle.rma_open.proofs.EventLemmas.{held_by, phase_push, some_held}
use Rattle.rma_epoch.proofs.LiveLemmas.{past_push}
use Rattle.rma_open.proofs.TestLemmas.{is_nothing, or_left, or_right}

-- ---- one kind

-- the kind that may be open: a phase, a start, a lockall, or locks
abbrev pub Apart : Open → Type 0
Apart own =
    ((own.start ≡ None) × (own.lock_all ≡ None) × ((t : ℕ) → own.lock_on t ≡ None))
    ⊎ (((own.phase ≡ None) × (own.lock_all ≡ None) × ((t : ℕ) → own.lock_on t ≡ None))
    ⊎ (((own.phase ≡ None) × (own.start ≡ None) × ((t : ℕ) → own.lock_on t ≡ None))
    ⊎ ((own.phase ≡ None) × (own.start ≡ None) × (own.lock_all ≡ None))))

-- what is not open is not open later
record Opens (old new : Open) : Type 0 where
  phase : old.phase ≡ None → new.phase ≡ None
  start : old.start ≡ None → new.start ≡ None
  lock_all : old.lock_all ≡ None → new.lock_all ≡ None
  lock_on : (t : ℕ) → old.lock_on t ≡ None → new.lock_on t ≡ None

still_apart : (old new : Open) → Opens old new → Apart old → Apart new
still_apart old new none (inl (start, lock_all, lock_on)) = inl (none.start start, none.lock_all lock_all, λ t. none.lock_on t (lock_on t))
still_apart old new none (inr (inl (phase, lock_all, lock_on))) = inr (inl (none.phase phase, none.lock_all lock_all, λ t. none.lock_on t (lock_on t)))
still_apart old new none (inr (inr (inl (phase, start, lock_on)))) = inr (inr (inl (none.phase phase, none.start start, λ t. none.lock_on t (lock_on t))))
still_apart old new none (inr (inr (inr (phase, start, lock_all)))) = inr (inr (inr (none.phase phase, none.start start, none.lock_all lock_all)))

-- ---- what a reason rules out

-- a test that no element passes fails at each
pub find_none : {X : Type 0} (p : X → Bool) (xs : List X) (i : ℕ) (x : X) → slice_get xs i ≡ Some x → find p xs ≡ None → p x ≡ false
find_none p [] i x there none = absurd (let no : ⊥ = cc in no)
find_none p (y ∷ ys) i x there none = by i there (p y) refl none (λ k at rest. find_none p ys k x at rest)
  where
    by : (i : ℕ) → slice_get (y ∷ ys) i ≡ Some x → (b : Bool) → p y ≡ b → cond b (Some y) (find p ys) ≡ None → ((k : ℕ) → slice_get ys k ≡ Some x → find p ys ≡ None → p x ≡ false) → p x ≡ false
    by i there true passed wrong later = absurd (none-some y (sym wrong))
    by zero there false failed rest later = let same : y ≡ x = cc in ap p (sym same) ∙ failed
    by (suc i) there false failed rest later = later i there rest

-- a phase that is not used ends
unused_ends : (phase : Option FencePhase) → option_map_or (λ (p : FencePhase). p.used) phase false ≡ false → option_and_then kept_if_used phase ≡ None
unused_ends None unused = refl
unused_ends (Some p) unused = ap (λ b. cond b (Some p) None) unused

-- no lock is held where none is
no_lock : (past : List (ℕ × What)) → list_any (is_held past) past ≡ false → (t : ℕ) → lock_of past t ≡ None
no_lock past none t = by (lock_of past t) refl
  where
    by : (o : Option HeldLock) → lock_of past t ≡ o → lock_of past t ≡ None
    by None is = is
    by (Some lock) is = absurd (true≢false (sym (some_held (is_held past) t lock (held_by past t lock is) past is) ∙ none))

-- ---- one more call

-- a call that neither opens nor closes
plain : (n : ℕ) (what : What) (past : List (ℕ × What)) → of_start n what ≡ None → of_lock_all n what ≡ None → ((t : ℕ) → of_lock t n what ≡ None) → ((phase : Option FencePhase) → next_phase n what phase ≡ phase)
    → Apart (open_after past) → Apart (open_after ((n, what) ∷ past))
plain n what past starts alls locks phases apart =
    still_apart (open_after past) (open_after ((n, what) ∷ past))
    (record {
      phase = λ none. phase_push n what past ∙ phases (open_after past).phase ∙ none;
      start = λ none. ap (λ says. unwrap_or says (left_by of_start past)) starts ∙ none;
      lock_all = λ none. ap (λ says. unwrap_or says (left_by of_lock_all past)) alls ∙ none;
      lock_on = λ t none. ap (λ says. unwrap_or says (lock_of past t)) (locks t) ∙ none;
    })
    apart

unlocked : (b : Bool) (held : Option HeldLock) → held ≡ None → unwrap_or (cond b (Some None) None) held ≡ None
unlocked true held none = refl
unlocked false held none = none

-- no access epoch lets none begin beside it
accessing_none : (past : List (ℕ × What)) → is_accessing (open_after past) ≡ false → (option_and_then kept_if_used (open_after past).phase ≡ None) × ((open_after past).start ≡ None) × ((open_after past).lock_all ≡ None)
accessing_none past none =
    let own = open_after past in
    let used = option_map_or (λ (p : FencePhase). p.used) own.phase false in
    let active = or_left (used || is_some own.start) (is_some own.lock_all) none in (
      unused_ends own.phase (or_left used (is_some own.start) active),
      is_nothing own.start (or_right used (is_some own.start) active),
      is_nothing own.lock_all (or_right (used || is_some own.start) (is_some own.lock_all) none),
    )

module _ (windows : List table.Window) (request : Option ℕ) (n : ℕ) (past : List (ℕ × What)) where
  apart_next : (what : What) → reason_in windows (open_after past) what request ≡ None → Apart (open_after past) → Apart (open_after ((n, what) ∷ past))
  apart_next (Rma call) sound apart =
      still_apart (open_after past) (open_after ((n, Rma call) ∷ past))
      (record { phase = λ none. phase_push n (Rma call) past ∙ ap (option_map with_use) none; start = λ none. none; lock_all = λ none. none; lock_on = λ t none. none })
      apart
  apart_next (Local call) sound apart = plain n (Local call) past refl refl (λ t. refl) (λ p. refl) apart
  apart_next (Sync (Frame call)) sound apart = plain n (Sync (Frame call)) past refl refl (λ t. refl) (λ p. refl) apart
  apart_next (Sync (Message call)) sound apart = plain n (Sync (Message call)) past refl refl (λ t. refl) (λ p. refl) apart
  apart_next (Sync (Window call)) sound apart = plain n (Sync (Window call)) past refl refl (λ t. refl) (λ p. refl) apart
  apart_next (Sync (Moving call)) sound apart = plain n (Sync (Moving call)) past refl refl (λ t. refl) (λ p. refl) apart
  apart_next (Sync (Epoch (Post w origins assertions))) sound apart = plain n (Sync (Epoch (Post w origins assertions))) past refl refl (λ t. refl) (λ p. refl) apart
  apart_next (Sync (Epoch (Expwait w))) sound apart = plain n (Sync (Epoch (Expwait w))) past refl refl (λ t. refl) (λ p. refl) apart
  apart_next (Sync (Epoch (Flush w target))) sound apart = plain n (Sync (Epoch (Flush w target))) past refl refl (λ t. refl) (λ p. refl) apart
  apart_next (Sync (Epoch (FlushAll w))) sound apart = plain n (Sync (Epoch (FlushAll w))) past refl refl (λ t. refl) (λ p. refl) apart
  apart_next (Sync (Epoch (FlushLocal w target))) sound apart = plain n (Sync (Epoch (FlushLocal w target))) past refl refl (λ t. refl) (λ p. refl) apart
  apart_next (Sync (Epoch (FlushLocalAll w))) sound apart = plain n (Sync (Epoch (FlushLocalAll w))) past refl refl (λ t. refl) (λ p. refl) apart
  apart_next (Sync (Epoch (epoch.Sync w))) sound apart = plain n (Sync (Epoch (epoch.Sync w))) past refl refl (λ t. refl) (λ p. refl) apart
  apart_next (Sync (Epoch (Complete w))) sound apart =
      still_apart (open_after past) (open_after ((n, Sync (Epoch (Complete w))) ∷ past))
      (record { phase = λ none. phase_push n (Sync (Epoch (Complete w))) past ∙ none; start = λ none. refl; lock_all = λ none. none; lock_on = λ t none. none })
      apart
  apart_next (Sync (Epoch (Unlock w target))) sound apart =
      still_apart (open_after past) (open_after ((n, Sync (Epoch (Unlock w target))) ∷ past))
      (record {
        phase = λ none. phase_push n (Sync (Epoch (Unlock w target))) past ∙ none;
        start = λ none. none;
        lock_all = λ none. none;
        lock_on = λ t none. unlocked (nat_eq target.0 t) (lock_of past t) none;
      })
      apart
  apart_next (Sync (Epoch (UnlockAll w))) sound apart =
      still_apart (open_after past) (open_after ((n, Sync (Epoch (UnlockAll w))) ∷ past))
      (record { phase = λ none. phase_push n (Sync (Epoch (UnlockAll w))) past ∙ none; start = λ none. none; lock_all = λ none. refl; lock_on = λ t none. none })
      apart
  apart_next (Sync (Epoch (Fence w assertions))) sound apart =
      let own = open_after past in
      let out : fence_in_epoch own (Sync (Epoch (Fence w assertions))) ≡ false = find_none (holds windows own (Sync (Epoch (Fence w assertions))) request) all_reasons 6 FenceInEpoch refl sound in
      let unlocked = or_left (is_some own.start || is_some own.post || is_some own.lock_all) own.any_lock out in
      let posted = or_left (is_some own.start || is_some own.post) (is_some own.lock_all) unlocked in
      inl (
        is_nothing own.start (or_left (is_some own.start) (is_some own.post) posted),
        is_nothing own.lock_all (or_right (is_some own.start || is_some own.post) (is_some own.lock_all) unlocked),
        no_lock past (or_right (is_some own.start || is_some own.post || is_some own.lock_all) own.any_lock out),
      )
  apart_next (Sync (Epoch (Start w targets assertions))) sound apart =
      let own = open_after past in
      let what = Sync (Epoch (Start w targets assertions)) in
      let out : (is_accessing own || own.any_lock) ≡ false = find_none (holds windows own what request) all_reasons 5 AccessOverlap refl sound in
      let idle = accessing_none past (or_left (is_accessing own) own.any_lock out) in
      inr (inl (phase_push n what past ∙ idle.0, idle.2, no_lock past (or_right (is_accessing own) own.any_lock out)))
  apart_next (Sync (Epoch (LockAll w assertions))) sound apart =
      let own = open_after past in
      let what = Sync (Epoch (LockAll w assertions)) in
      let out : (is_accessing own || own.any_lock) ≡ false = find_none (holds windows own what request) all_reasons 5 AccessOverlap refl sound in
      let idle = accessing_none past (or_left (is_accessing own) own.any_lock out) in
      inr (inr (inl (phase_push n what past ∙ idle.0, idle.1, no_lock past (or_right (is_accessing own) own.any_lock out))))
  apart_next (Sync (Epoch (Lock w target kind assertions))) sound apart =
      let own = open_after past in
      let what = Sync (Epoch (Lock w target kind assertions)) in
      let out : (is_accessing own || is_some (own.lock_on target.0)) ≡ false = find_none (holds windows own what request) all_reasons 5 AccessOverlap refl sound in
      let idle = accessing_none past (or_left (is_accessing own) (is_some (own.lock_on target.0)) out) in
      inr (inr (inr (phase_push n what past ∙ idle.0, idle.1, idle.2)))

-- what is open after nothing
apart_first : (window : List ℕ) → Apart (open_on [] window)
apart_first window = inl (refl, refl, λ t. refl)

-- what a call on a window may not have
reason_on : (windows : List table.Window) (before : List Call) (call : Call) (window : List ℕ) → is_on window call.what ≡ true → reason_at windows before call ≡ None → reason_in windows (open_on before window) call.what call.request ≡ None
reason_on windows before call window on none = by (window_on call.what) on none
  where
    by : (o : Option (List ℕ)) → option_map_or (pointwise nat_eq window) o false ≡ true → option_and_then (λ w. reason_in windows (open_on before w) call.what call.request) o ≡ None → reason_in windows (open_on before window) call.what call.request ≡ None
    by None on none = absurd (false≢true on)
    by (Some w) on none = ap (λ v. reason_in windows (open_on before v) call.what call.request) (same_text window w (sym on)) ∙ none

-- one more sound call
apart_more : (windows : List table.Window) (before : List Call) (call : Call) → reason_at windows before call ≡ None → ((window : List ℕ) → Apart (open_on before window)) → (window : List ℕ) → Apart (open_on (before ++ call ∷ []) window)
apart_more windows before call none apart window = by (is_on window call.what) refl
  where
    push : (b : Bool) → is_on window call.what ≡ b → past_on window (before ++ call ∷ []) ≡ cond b ((length before, call.what) ∷ past_on window before) (past_on window before)
    push b is = past_push window before call ∙ ap (λ b. cond b ((length before, call.what) ∷ past_on window before) (past_on window before)) is

    by : (b : Bool) → is_on window call.what ≡ b → Apart (open_on (before ++ call ∷ []) window)
    by false off = subst (λ past. Apart (open_after past)) (sym (push false off)) (apart window)
    by true on =
        subst (λ past. Apart (open_after past)) (sym (push true on))
        (apart_next windows call.request (length before) (past_on window before) call.what (reason_on windows before call window on none) (apart window))

-- a sound call has no reason, and one kind alone is open to it
pub record IsApart (windows : List table.Window) (before : List Call) (call : Call) : Type 0 where
  pub sound : reason_at windows before call ≡ None
  pub apart : (window : List ℕ) → Apart (open_on before window)

apart_from : (windows : List table.Window) (before calls : List Call) → ((window : List ℕ) → Apart (open_on before window)) → (k : ℕ) (call : Call) → slice_get (sound_from windows before calls) k ≡ Some call
    → IsApart windows (before ++ take k (sound_from windows before calls)) call
apart_from windows before [] apart k call there = absurd (let no : ⊥ = cc in no)
apart_from windows before (x ∷ xs) apart k call there =
    by (reason_at windows before x) refl k there (λ none i at. apart_from windows (before ++ x ∷ []) xs (apart_more windows before x none apart) i call at)
  where
    rest : List Call
    rest = sound_from windows (before ++ x ∷ []) xs

    by : (o : Option EpochReason) → reason_at windows before x ≡ o → (k : ℕ) → slice_get (cond (is_none o) (x ∷ rest) []) k ≡ Some call
        → (reason_at windows before x ≡ None → (i : ℕ) → slice_get rest i ≡ Some call → IsApart windows ((before ++ x ∷ []) ++ take i rest) call)
        → IsApart windows (before ++ take k (cond (is_none o) (x ∷ rest) [])) call
    by (Some reason) some k there later = absurd (let no : ⊥ = cc in no)
    by None none zero there later =
        let same : x ≡ call = cc in
        subst (λ past. IsApart windows past call) (sym (append-nil before)) (record { sound = ap (reason_at windows before) (sym same) ∙ none; apart = apart })
    by None none (suc k) there later = subst (λ past. IsApart windows past call) (append_assoc before (x ∷ []) (take k rest)) (later none k there)

-- the same from the first call on
pub is_apart : (windows : List table.Window) (calls : List Call) (k : ℕ) (call : Call) → slice_get (sound_from windows [] calls) k ≡ Some call → IsApart windows (take k (sound_from windows [] calls)) call
is_apart windows calls k call there = apart_from windows [] calls apart_first k call there
