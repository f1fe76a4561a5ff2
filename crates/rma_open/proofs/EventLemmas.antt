-- What is open after one more call on a window.
use Rattle.std.proofs.Common.{◌≡◌, ℕ, Bool, true, false, cond, ◌||◌, ◌∷◌, List, [], length, Option, Some, None, nat_eq, nat_lt, refl, sym, ap, ◌∙◌, ◌⊎◌, inl, inr, subst, arith}
use Rattle.std.proofs.lemmas.Bool.Decides.{nat_tests}
use Rattle.std.proofs.lemmas.Bool.{eqb-true}
use Rattle.std.proofs.lemmas.Option.{none-some}
use Rattle.std.proofs.Math.Bool.{or-true}
use Rattle.std.proofs.Math.Path.{fun_ext}
use Rattle.std.proofs.lemmas.Cmp.{nat_eq_equiv}
use Rattle.std.proofs.lemmas.Map.Entries.{lookup_head}
use Rattle.std.specs.Map.{lookup}
use Rattle.std.specs.List.{list_any}
use Rattle.std.specs.Prelude.{option_map, unwrap_or, is_some}
use Rattle.std.specs.Option.{option_and_then, option_map_or, option_or}
use denote.Bor.{Bor}
use Rattle.rma_call.specs.Call.{what_of}
use Rattle.rma_call.specs.declared.what.WhatRef.{WhatRef}
use Rattle.rma_call.specs.declared.what.WhatRef.TheVariants as ref
use Rattle.rma_call.specs.declared.rma.RmaRef.{RmaRef}
use Rattle.rma_call.specs.declared.window.WindowCall.{WindowCall}
use Rattle.rma_call.specs.declared.what.What.{What}
use Rattle.rma_call.specs.declared.what.What.TheVariants.{Sync, Rma, Local}
use Rattle.rma_call.specs.declared.what.SyncCall.TheVariants.{Frame, Message, Window, Epoch, Moving}
use Rattle.rma_call.specs.declared.epoch.EpochCall.{EpochCall}
use Rattle.rma_call.specs.declared.epoch.EpochCall.TheVariants.{Fence, Post, Start, Complete, Expwait, Lock, Unlock, LockAll, UnlockAll, Flush, FlushAll, FlushLocal, FlushLocalAll}
use Rattle.rma_call.specs.declared.epoch.EpochCall.TheVariants as epoch
use Rattle.rma_open.specs.declared.opening.OpenStart.{OpenStart}
use Rattle.rma_open.specs.declared.opening.FencePhase.{FencePhase}
use Rattle.rma_open.specs.declared.opening.HeldLock.{HeldLock}
use Rattle.rma_open.specs.declared.open_epochs.OpenEpochs.{OpenEpochs}
use Rattle.rma_open.specs.Open.{Open, open_after, of_start, of_post, of_lock_all, of_lock, of_fence, frees, is_exclusive, first_use, phase_of, left_by, lock_of, is_held, locked_by}
use Rattle.rma_open.specs.inside.Next.{next_phase, kept_if_used, with_use, IsNext}
use Rattle.rma_open.specs.inside.Held.{open_of}
use Rattle.rma_open.proofs.TestLemmas.{all_false}

-- ---- the phase

-- the phase after these calls
abbrev phase_after : List (ℕ × What) → Option FencePhase
phase_after past = option_and_then (phase_of (first_use past)) (left_by of_fence past)

use_more : (opened : Option ℕ) (used : Option Bool) → option_and_then (phase_of (option_or used (Some true))) opened ≡ option_map with_use (option_and_then (phase_of used) opened)
use_more None used = refl
use_more (Some n) None = refl
use_more (Some n) (Some true) = refl
use_more (Some n) (Some false) = refl

end_more : (opened : Option ℕ) (used : Option Bool) → option_and_then (phase_of (option_or used (Some false))) opened ≡ option_and_then kept_if_used (option_and_then (phase_of used) opened)
end_more None used = refl
end_more (Some n) None = refl
end_more (Some n) (Some true) = refl
end_more (Some n) (Some false) = refl

none_more : (opened : Option ℕ) (used : Option Bool) → option_and_then (phase_of (option_or used None)) opened ≡ option_and_then (phase_of used) opened
none_more opened None = refl
none_more opened (Some b) = refl

fence_more : (b : Bool) (n : ℕ) → option_and_then (phase_of None) (cond b None (Some n)) ≡ cond b None (Some (record { opener = n; used = false }))
fence_more true n = refl
fence_more false n = refl

pub phase_push : (n : ℕ) (what : What) (past : List (ℕ × What)) → phase_after ((n, what) ∷ past) ≡ next_phase n what (phase_after past)
phase_push n (Rma call) past = use_more (left_by of_fence past) (first_use past)
phase_push n (Local call) past = none_more (left_by of_fence past) (first_use past)
phase_push n (Sync (Frame call)) past = none_more (left_by of_fence past) (first_use past)
phase_push n (Sync (Message call)) past = none_more (left_by of_fence past) (first_use past)
phase_push n (Sync (Window call)) past = none_more (left_by of_fence past) (first_use past)
phase_push n (Sync (Moving call)) past = none_more (left_by of_fence past) (first_use past)
phase_push n (Sync (Epoch (Fence window assertions))) past = fence_more assertions.nosucceed n
phase_push n (Sync (Epoch (Post window origins assertions))) past = none_more (left_by of_fence past) (first_use past)
phase_push n (Sync (Epoch (Start window targets assertions))) past = end_more (left_by of_fence past) (first_use past)
phase_push n (Sync (Epoch (Complete window))) past = none_more (left_by of_fence past) (first_use past)
phase_push n (Sync (Epoch (Expwait window))) past = none_more (left_by of_fence past) (first_use past)
phase_push n (Sync (Epoch (Lock window target kind assertions))) past = end_more (left_by of_fence past) (first_use past)
phase_push n (Sync (Epoch (Unlock window target))) past = none_more (left_by of_fence past) (first_use past)
phase_push n (Sync (Epoch (LockAll window assertions))) past = end_more (left_by of_fence past) (first_use past)
phase_push n (Sync (Epoch (UnlockAll window))) past = none_more (left_by of_fence past) (first_use past)
phase_push n (Sync (Epoch (Flush window target))) past = none_more (left_by of_fence past) (first_use past)
phase_push n (Sync (Epoch (FlushAll window))) past = none_more (left_by of_fence past) (first_use past)
phase_push n (Sync (Epoch (FlushLocal window target))) past = none_more (left_by of_fence past) (first_use past)
phase_push n (Sync (Epoch (FlushLocalAll window))) past = none_more (left_by of_fence past) (first_use past)
phase_push n (Sync (Epoch (epoch.Sync window))) past = none_more (left_by of_fence past) (first_use past)

-- ---- whether some lock is held

-- a call after which the lock of a target is held locks the target, or the lock is held before it
locked_then : (t n : ℕ) (what : What) (rest : Option HeldLock) (lock : HeldLock) → unwrap_or (of_lock t n what) rest ≡ Some lock → (locked_by what ≡ Some t) ⊎ (rest ≡ Some lock)
locked_then t n (Sync (Epoch (Lock window own kind assertions))) rest lock held = by (nat_eq own.0 t) refl held
  where
    by : (b : Bool) → nat_eq own.0 t ≡ b → unwrap_or (cond b (Some (Some (record { opener = n; exclusive = is_exclusive kind }))) None) rest ≡ Some lock → (Some own.0 ≡ Some t) ⊎ (rest ≡ Some lock)
    by true same h = inl (ap Some (eqb-true own.0 t same))
    by false differ h = inr h
locked_then t n (Sync (Epoch (Unlock window own))) rest lock held = by (nat_eq own.0 t) held
  where
    by : (b : Bool) → unwrap_or (cond b (Some None) None) rest ≡ Some lock → (None ≡ Some t) ⊎ (rest ≡ Some lock)
    by true h = absurd (none-some lock h)
    by false h = inr h
locked_then t n (Rma call) rest lock held = inr held
locked_then t n (Local call) rest lock held = inr held
locked_then t n (Sync (Frame call)) rest lock held = inr held
locked_then t n (Sync (Message call)) rest lock held = inr held
locked_then t n (Sync (Window call)) rest lock held = inr held
locked_then t n (Sync (Moving call)) rest lock held = inr held
locked_then t n (Sync (Epoch (Fence window assertions))) rest lock held = inr held
locked_then t n (Sync (Epoch (Post window origins assertions))) rest lock held = inr held
locked_then t n (Sync (Epoch (Start window targets assertions))) rest lock held = inr held
locked_then t n (Sync (Epoch (Complete window))) rest lock held = inr held
locked_then t n (Sync (Epoch (Expwait window))) rest lock held = inr held
locked_then t n (Sync (Epoch (LockAll window assertions))) rest lock held = inr held
locked_then t n (Sync (Epoch (UnlockAll window))) rest lock held = inr held
locked_then t n (Sync (Epoch (Flush window target))) rest lock held = inr held
locked_then t n (Sync (Epoch (FlushAll window))) rest lock held = inr held
locked_then t n (Sync (Epoch (FlushLocal window target))) rest lock held = inr held
locked_then t n (Sync (Epoch (FlushLocalAll window))) rest lock held = inr held
locked_then t n (Sync (Epoch (epoch.Sync window))) rest lock held = inr held

-- some call locks a target whose lock is held
pub some_held : (p : ℕ × What → Bool) (t : ℕ) (lock : HeldLock) → ((call : ℕ × What) → locked_by call.1 ≡ Some t → p call ≡ true) → (past : List (ℕ × What)) → lock_of past t ≡ Some lock → list_any p past ≡ true
some_held p t lock holds [] held = absurd (none-some lock held)
some_held p t lock holds (call ∷ past) held = by (locked_then t call.0 call.1 (lock_of past t) lock held) (some_held p t lock holds past)
  where
    by : (locked_by call.1 ≡ Some t) ⊎ (lock_of past t ≡ Some lock) → (lock_of past t ≡ Some lock → list_any p past ≡ true) → list_any p (call ∷ past) ≡ true
    by (inl locks) rest = rw (holds call locks) refl
    by (inr before) rest = rw (rest before) (or-true (p call))

-- no lock is held where none is left
nothing_held : (past : List (ℕ × What)) → ((t : ℕ) → lock_of past t ≡ None) → (call : ℕ × What) → is_held past call ≡ false
nothing_held past none call = by (locked_by call.1)
  where
    by : (o : Option ℕ) → option_map_or (λ t. is_some (lock_of past t)) o false ≡ false
    by None = refl
    by (Some t) = rw (none t) refl

pub held_by : (past : List (ℕ × What)) (t : ℕ) (lock : HeldLock) → lock_of past t ≡ Some lock → (call : ℕ × What) → locked_by call.1 ≡ Some t → is_held past call ≡ true
held_by past t lock held call locks = rw (locks, held) refl

-- locks that are kept under the targets that have one
any_is : (locks : List (ℕ × HeldLock)) (past : List (ℕ × What)) → ((t : ℕ) → lookup (nat_eq t) locks ≡ lock_of past t) → nat_lt 0 (length locks) ≡ list_any (is_held past) past
any_is [] past same = sym (all_false (is_held past) past (nothing_held past (λ t. sym (same t))))
any_is (e ∷ locks) past same =
    let held : lock_of past e.0 ≡ Some e.1 = sym (same e.0) ∙ lookup_head (nat_eq e.0) e locks (nat_eq_equiv.refl e.0) in
    let some : nat_lt 0 (length (e ∷ locks)) ≡ true = grind (arith, nat_tests) in
    some ∙ sym (some_held (is_held past) e.0 e.1 (held_by past e.0 e.1 held) past held)

-- how a lock is put, and how it ends
pub lock_put : (b : Bool) (lock : HeldLock) (rest : Option HeldLock) → cond b (Some lock) rest ≡ unwrap_or (cond b (Some (Some lock)) None) rest
lock_put true lock rest = refl
lock_put false lock rest = refl

pub lock_gone : (b : Bool) (rest : Option HeldLock) → cond b None rest ≡ unwrap_or (cond b (Some None) None) rest
lock_gone true rest = refl
lock_gone false rest = refl

-- ---- all of it

abbrev made : Option OpenStart → Option ℕ → Option ℕ → (ℕ → Option HeldLock) → Bool → Option FencePhase → Bool → Open
made start post lock_all lock_on any phase freed = record { start = start; post = post; lock_all = lock_all; lock_on = lock_on; any_lock = any; phase = phase; freed = freed }

-- what is kept after one more call represents what it leaves open
pub next_is : (n : ℕ) (what : What) (past : List (ℕ × What)) (old new : OpenEpochs) → open_of old ≡ open_after past → IsNext n what (open_of old) (open_of new) → open_of new ≡ open_after ((n, what) ∷ past)
next_is n what past old new is next =
    let locks : (t : ℕ) → lookup (nat_eq t) new.locks.entries ≡ lock_of ((n, what) ∷ past) t =
    λ t. next.lock_on t ∙ ap (λ (o : Open). unwrap_or (of_lock t n what) (o.lock_on t)) is in
    ap (λ x. made x new.post new.lock_all (open_of new).lock_on (open_of new).any_lock new.phase new.freed) (next.start ∙ ap (λ (o : Open). unwrap_or (of_start n what) o.start) is)
    ∙ ap (λ x. made (open_after ((n, what) ∷ past)).start x new.lock_all (open_of new).lock_on (open_of new).any_lock new.phase new.freed) (next.post ∙ ap (λ (o : Open). unwrap_or (of_post n what) o.post) is)
    ∙ ap (λ x. made (open_after ((n, what) ∷ past)).start (open_after ((n, what) ∷ past)).post x (open_of new).lock_on (open_of new).any_lock new.phase new.freed) (next.lock_all ∙ ap (λ (o : Open). unwrap_or (of_lock_all n what) o.lock_all) is)
    ∙ ap (λ x. made (open_after ((n, what) ∷ past)).start (open_after ((n, what) ∷ past)).post (open_after ((n, what) ∷ past)).lock_all x (open_of new).any_lock new.phase new.freed) (fun_ext locks)
    ∙ ap (λ x. made (open_after ((n, what) ∷ past)).start (open_after ((n, what) ∷ past)).post (open_after ((n, what) ∷ past)).lock_all (lock_of ((n, what) ∷ past)) x new.phase new.freed) (any_is new.locks.entries ((n, what) ∷ past) locks)
    ∙ ap (λ x. made (open_after ((n, what) ∷ past)).start (open_after ((n, what) ∷ past)).post (open_after ((n, what) ∷ past)).lock_all (lock_of ((n, what) ∷ past)) (open_after ((n, what) ∷ past)).any_lock x new.freed) (next.phase ∙ ap (λ (o : Open). next_phase n what o.phase) is ∙ sym (phase_push n what past))
    ∙ ap (λ x. made (open_after ((n, what) ∷ past)).start (open_after ((n, what) ∷ past)).post (open_after ((n, what) ∷ past)).lock_all (lock_of ((n, what) ∷ past)) (open_after ((n, what) ∷ past)).any_lock (open_after ((n, what) ∷ past)).phase x) (next.freed ∙ ap (λ (o : Open). frees what || o.freed) is)

-- the same of a call that opens or closes an epoch
pub next_epoch : (n : ℕ) (call known : EpochCall) → call ≡ known → (past : List (ℕ × What)) (old new : OpenEpochs) → open_of old ≡ open_after past → IsNext n (Sync (Epoch known)) (open_of old) (open_of new)
    → open_of new ≡ open_after ((n, Sync (Epoch call)) ∷ past)
next_epoch n call known same past old new is next = subst (λ (own : EpochCall). open_of new ≡ open_after ((n, Sync (Epoch own)) ∷ past)) (sym same) (next_is n (Sync (Epoch known)) past old new is next)

-- and of one that is on no window, which leaves all as it is
pub next_other : (n : ℕ) (what : WhatRef) → ((call : Bor EpochCall) → what ≡ ref.Epoch call → ⊥) → ((access : RmaRef) → what ≡ ref.Rma access → ⊥) → ((call : Bor WindowCall) → what ≡ ref.Window call → ⊥)
    → (past : List (ℕ × What)) (own : OpenEpochs) → open_of own ≡ open_after past → open_of own ≡ open_after ((n, what_of what) ∷ past)
next_other n (ref.Epoch call) epoch rma window past own is = absurd (epoch call refl)
next_other n (ref.Rma access) epoch rma window past own is = absurd (rma access refl)
next_other n (ref.Window call) epoch rma window past own is = absurd (window call refl)
next_other n (ref.Frame call) epoch rma window past own is =
    next_is n (Sync (Frame call.now)) past own own is (record { start = refl; post = refl; lock_all = refl; lock_on = λ t. refl; phase = refl; freed = refl })
next_other n (ref.Message call) epoch rma window past own is =
    next_is n (Sync (Message call.now)) past own own is (record { start = refl; post = refl; lock_all = refl; lock_on = λ t. refl; phase = refl; freed = refl })
next_other n (ref.Moving call) epoch rma window past own is =
    next_is n (Sync (Moving call.now)) past own own is (record { start = refl; post = refl; lock_all = refl; lock_on = λ t. refl; phase = refl; freed = refl })
next_other n (ref.Local call) epoch rma window past own is =
    next_is n (Local call.now) past own own is (record { start = refl; post = refl; lock_all = refl; lock_on = λ t. refl; phase = refl; freed = refl })
