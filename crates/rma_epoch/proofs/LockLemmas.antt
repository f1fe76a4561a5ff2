-- The lock epochs of a rank.
use Rattle.std.proofs.Common.{◌≡◌, ℕ, ◌+◌, true, false, cond, Bool, ◌∷◌, List, [], map, Option, Some, None, refl, ap, ◌∙◌}
use Rattle.std.specs.List.{cons_option, filter_map}
use Rattle.std.specs.Option.{option_and_then}
use Rattle.std.specs.Prelude.{option_map}
use Rattle.rma_call.specs.Call.{Call}
use Rattle.rma_call.specs.declared.what.What.{What}
use Rattle.rma_call.specs.declared.what.What.TheVariants.{Sync, Rma, Local}
use Rattle.rma_call.specs.declared.what.SyncCall.TheVariants as sync
use Rattle.rma_call.specs.declared.epoch.EpochCall.TheVariants as epoch
use Rattle.rma_window.specs.declared.window_id.WindowId.{WindowId}
use Rattle.rma_window.specs.Windows.{Window, number_of}
use Rattle.rma_open.specs.declared.opening.EpochKind.TheVariants as kind
use Rattle.rma_open.specs.Calls.{number_on}
use Rattle.rma_open.specs.Open.{is_exclusive}
use Rattle.rma_epoch.specs.declared.epoch.Epoch.{Epoch}
use Rattle.rma_epoch.specs.declared.epoch.Targets.TheVariants as targets
use Rattle.rma_epoch.specs.Table.{close_of, epoch_with, opened_by, opened_from, opened_on}
use Rattle.rma_epoch.specs.Laws.{LockEpoch, LocksAreEpochs, as_lock, lock_opened, locks_from}

-- an epoch with the call that closes it, as a lock epoch
abbrev closed_lock : (ℕ → Option ℕ) → Epoch → Option LockEpoch
closed_lock close e = as_lock (epoch_with close e)

-- a call that opens no lock epoch
none_locked : (close : ℕ → Option ℕ) (n : ℕ) (what : What) → ((id : WindowId) → option_and_then (closed_lock close) (opened_on n what id) ≡ None) → (o : Option WindowId) → option_and_then (closed_lock close) (option_and_then (opened_on n what) o) ≡ None
none_locked close n what none None = refl
none_locked close n what none (Some id) = none id

-- the lock epoch that a call opens
lock_is : (windows : List Window) (close : ℕ → Option ℕ) (n : ℕ) (what : What) → option_and_then (closed_lock close) (opened_by windows n what) ≡ lock_opened windows (close n) n what
lock_is windows close n (Sync (sync.Epoch (epoch.Lock w target lock assertions))) = by (number_of windows w)
  where
    by : (o : Option WindowId) → option_and_then (closed_lock close) (option_and_then (opened_on n (Sync (sync.Epoch (epoch.Lock w target lock assertions)))) o) ≡ option_map (λ (id : WindowId). record { window = id; target = Some target; exclusive = is_exclusive lock; opener = n; close = close n }) o
    by None = refl
    by (Some id) = refl
lock_is windows close n (Sync (sync.Epoch (epoch.LockAll w assertions))) = by (number_of windows w)
  where
    by : (o : Option WindowId) → option_and_then (closed_lock close) (option_and_then (opened_on n (Sync (sync.Epoch (epoch.LockAll w assertions)))) o) ≡ option_map (λ (id : WindowId). record { window = id; target = None; exclusive = false; opener = n; close = close n }) o
    by None = refl
    by (Some id) = refl
lock_is windows close n (Sync (sync.Epoch (epoch.Fence w assertions))) = none_locked close n (Sync (sync.Epoch (epoch.Fence w assertions))) (λ id. by id assertions.nosucceed) (number_on windows (Sync (sync.Epoch (epoch.Fence w assertions))))
  where
    by : (id : WindowId) (b : Bool) → option_and_then (closed_lock close) (cond b None (Some (record { kind = kind.Fence; window = id; targets = targets.All; opener = n; close = None }))) ≡ None
    by id true = refl
    by id false = refl
lock_is windows close n (Sync (sync.Epoch (epoch.Post w group assertions))) = none_locked close n (Sync (sync.Epoch (epoch.Post w group assertions))) (λ id. refl) (number_on windows (Sync (sync.Epoch (epoch.Post w group assertions))))
lock_is windows close n (Sync (sync.Epoch (epoch.Start w group assertions))) = none_locked close n (Sync (sync.Epoch (epoch.Start w group assertions))) (λ id. refl) (number_on windows (Sync (sync.Epoch (epoch.Start w group assertions))))
lock_is windows close n (Sync (sync.Epoch (epoch.Complete w))) = none_locked close n (Sync (sync.Epoch (epoch.Complete w))) (λ id. refl) (number_on windows (Sync (sync.Epoch (epoch.Complete w))))
lock_is windows close n (Sync (sync.Epoch (epoch.Expwait w))) = none_locked close n (Sync (sync.Epoch (epoch.Expwait w))) (λ id. refl) (number_on windows (Sync (sync.Epoch (epoch.Expwait w))))
lock_is windows close n (Sync (sync.Epoch (epoch.Unlock w target))) = none_locked close n (Sync (sync.Epoch (epoch.Unlock w target))) (λ id. refl) (number_on windows (Sync (sync.Epoch (epoch.Unlock w target))))
lock_is windows close n (Sync (sync.Epoch (epoch.UnlockAll w))) = none_locked close n (Sync (sync.Epoch (epoch.UnlockAll w))) (λ id. refl) (number_on windows (Sync (sync.Epoch (epoch.UnlockAll w))))
lock_is windows close n (Sync (sync.Epoch (epoch.Flush w target))) = none_locked close n (Sync (sync.Epoch (epoch.Flush w target))) (λ id. refl) (number_on windows (Sync (sync.Epoch (epoch.Flush w target))))
lock_is windows close n (Sync (sync.Epoch (epoch.FlushAll w))) = none_locked close n (Sync (sync.Epoch (epoch.FlushAll w))) (λ id. refl) (number_on windows (Sync (sync.Epoch (epoch.FlushAll w))))
lock_is windows close n (Sync (sync.Epoch (epoch.FlushLocal w target))) = none_locked close n (Sync (sync.Epoch (epoch.FlushLocal w target))) (λ id. refl) (number_on windows (Sync (sync.Epoch (epoch.FlushLocal w target))))
lock_is windows close n (Sync (sync.Epoch (epoch.FlushLocalAll w))) = none_locked close n (Sync (sync.Epoch (epoch.FlushLocalAll w))) (λ id. refl) (number_on windows (Sync (sync.Epoch (epoch.FlushLocalAll w))))
lock_is windows close n (Sync (sync.Epoch (epoch.Sync w))) = none_locked close n (Sync (sync.Epoch (epoch.Sync w))) (λ id. refl) (number_on windows (Sync (sync.Epoch (epoch.Sync w))))
lock_is windows close n (Sync (sync.Frame call)) = none_locked close n (Sync (sync.Frame call)) (λ id. refl) (number_on windows (Sync (sync.Frame call)))
lock_is windows close n (Sync (sync.Message call)) = none_locked close n (Sync (sync.Message call)) (λ id. refl) (number_on windows (Sync (sync.Message call)))
lock_is windows close n (Sync (sync.Window call)) = none_locked close n (Sync (sync.Window call)) (λ id. refl) (number_on windows (Sync (sync.Window call)))
lock_is windows close n (Sync (sync.Moving call)) = none_locked close n (Sync (sync.Moving call)) (λ id. refl) (number_on windows (Sync (sync.Moving call)))
lock_is windows close n (Rma call) = none_locked close n (Rma call) (λ id. refl) (number_on windows (Rma call))
lock_is windows close n (Local call) = none_locked close n (Local call) (λ id. refl) (number_on windows (Local call))

first_lock : (close : ℕ → Option ℕ) (o : Option Epoch) (rest : List Epoch) → filter_map as_lock (map (epoch_with close) (cons_option o rest)) ≡ cons_option (option_and_then (closed_lock close) o) (filter_map as_lock (map (epoch_with close) rest))
first_lock close None rest = refl
first_lock close (Some e) rest = by (closed_lock close e)
  where
    by : (l : Option LockEpoch) → cons_option l (filter_map as_lock (map (epoch_with close) rest)) ≡ cons_option l (filter_map as_lock (map (epoch_with close) rest))
    by l = refl

locks_are_from : (windows : List Window) (close : ℕ → Option ℕ) (n : ℕ) (calls : List Call) → filter_map as_lock (map (epoch_with close) (opened_from windows n calls)) ≡ locks_from windows close n calls
locks_are_from windows close n [] = refl
locks_are_from windows close n (call ∷ calls) =
    first_lock close (opened_by windows n call.what) (opened_from windows (n + 1) calls)
    ∙ ap (λ (l : Option LockEpoch). cons_option l (filter_map as_lock (map (epoch_with close) (opened_from windows (n + 1) calls)))) (lock_is windows close n call.what)
    ∙ ap (cons_option (lock_opened windows (close n) n call.what)) (locks_are_from windows close (n + 1) calls)

-- the lock epochs are epochs of the list
pub locks_are : (windows : List Window) (calls : List Call) → LocksAreEpochs windows calls
locks_are windows calls = locks_are_from windows (close_of calls) 0 calls
