use Rattle.std.proofs.Common.{◌≡◌, ℕ, refl, ap, ◌∙◌, Some, None, cond, nat_eq}
use Rattle.std.specs.Prelude.{unwrap_or}
use Rattle.std.specs.Map.{lookup}
use Rattle.rma_call.specs.declared.epoch.EpochCall.TheVariants.{Fence, Post, Start, Complete, Expwait, Lock, Unlock, LockAll, UnlockAll, Flush, FlushAll, FlushLocal, FlushLocalAll}
use Rattle.rma_call.specs.declared.epoch.EpochCall.TheVariants as epoch
use Rattle.rma_call.specs.declared.what.What.TheVariants.{Sync}
use Rattle.rma_call.specs.declared.what.SyncCall.TheVariants.{Epoch}
use Rattle.rma_open.specs.Open.{is_exclusive, of_lock}
use Rattle.rma_open.specs.declared.opening.HeldLock.{HeldLock}
use Rattle.rma_open.specs.declared.open_epochs.OpenEpochs.{OpenEpochs}
use Rattle.rma_open.proofs.EventLemmas.{next_epoch, lock_put, lock_gone}
use Rattle.rma_open.proofs.open_epochs.OpenEpochs.turn.Goals as goal

pub returns-in-Fence : goal.returns-in-Fence
returns-in-Fence c = λ past is.
    let own : OpenEpochs = c.args.self.now in
    next_epoch c.args.number c.args.call.now (Fence c.in-Fence.window c.in-Fence.assertions) c.in-Fence.is past own (record own { phase = c.opened_phase-self.result }) is
    (record { start = refl; post = refl; lock_all = refl; lock_on = λ t. refl; phase = c.opened_phase-self.ensures; freed = refl })

pub returns-in-Post : goal.returns-in-Post
returns-in-Post c = λ past is.
    let own : OpenEpochs = c.args.self.now in
    next_epoch c.args.number c.args.call.now (Post c.in-Post.window c.in-Post.origins c.in-Post.assertions) c.in-Post.is past own (record own { post = Some c.args.number }) is
    (record { start = refl; post = refl; lock_all = refl; lock_on = λ t. refl; phase = refl; freed = refl })

pub returns-in-Expwait : goal.returns-in-Expwait
returns-in-Expwait c = λ past is.
    let own : OpenEpochs = c.args.self.now in
    next_epoch c.args.number c.args.call.now (Expwait c.in-Expwait.window) c.in-Expwait.is past own (record own { post = None }) is
    (record { start = refl; post = refl; lock_all = refl; lock_on = λ t. refl; phase = refl; freed = refl })

pub returns-in_ok-targets-in-Start : goal.returns-in_ok-targets-in-Start
returns-in_ok-targets-in-Start c = λ past is.
    let own : OpenEpochs = c.args.self.now in
    next_epoch c.args.number c.args.call.now (Start c.in-Start.window c.in-Start.targets c.in-Start.assertions) c.in-Start.is past own (record own { start = Some (record { opener = c.args.number; targets = c.in_ok-targets-in-Start.targets }); phase = c.phase_if_used-self.result }) is
    (record { start = ap (λ targets. Some (record { opener = c.args.number; targets = targets })) c.in_ok-targets-in-Start.ensures; post = refl; lock_all = refl; lock_on = λ t. refl; phase = c.phase_if_used-self.ensures; freed = refl })

pub returns-in-Complete : goal.returns-in-Complete
returns-in-Complete c = λ past is.
    let own : OpenEpochs = c.args.self.now in
    next_epoch c.args.number c.args.call.now (Complete c.in-Complete.window) c.in-Complete.is past own (record own { start = None }) is
    (record { start = refl; post = refl; lock_all = refl; lock_on = λ t. refl; phase = refl; freed = refl })

pub returns-in_ok-insert-in-Lock : goal.returns-in_ok-insert-in-Lock
returns-in_ok-insert-in-Lock c = λ past is.
    let own : OpenEpochs = c.args.self.now in
    let locks : (t : ℕ) → lookup (nat_eq t) c.insert.new.self.entries ≡ unwrap_or (of_lock t c.args.number (Sync (Epoch (Lock c.in-Lock.window c.in-Lock.target c.in-Lock.kind c.in-Lock.assertions)))) (lookup (nat_eq t) own.locks.entries) =
    λ t. c.in_ok-insert-in-Lock.ensures.updates.0 t
    ∙ ap (λ (lock : HeldLock). cond (nat_eq c.in-Lock.target.0 t) (Some lock) (lookup (nat_eq t) own.locks.entries)) c.held_lock.ensures
    ∙ lock_put (nat_eq c.in-Lock.target.0 t) (record { opener = c.args.number; exclusive = is_exclusive c.in-Lock.kind }) (lookup (nat_eq t) own.locks.entries) in
    next_epoch c.args.number c.args.call.now (Lock c.in-Lock.window c.in-Lock.target c.in-Lock.kind c.in-Lock.assertions) c.in-Lock.is past own (record own { locks = c.insert.new.self; phase = c.phase_if_used-self-in-Lock.result }) is
    (record { start = refl; post = refl; lock_all = refl; lock_on = λ t. locks t; phase = c.phase_if_used-self-in-Lock.ensures; freed = refl })

pub returns-in-Unlock : goal.returns-in-Unlock
returns-in-Unlock c = λ past is.
    let own : OpenEpochs = c.args.self.now in
    next_epoch c.args.number c.args.call.now (Unlock c.in-Unlock.window c.in-Unlock.target) c.in-Unlock.is past own (record own { locks = c.swap_remove.new.self }) is
    (record { start = refl; post = refl; lock_all = refl; lock_on = λ t. c.swap_remove.ensures.updates.0 t ∙ lock_gone (nat_eq c.in-Unlock.target.0 t) (lookup (nat_eq t) own.locks.entries); phase = refl; freed = refl })

pub returns-in-LockAll : goal.returns-in-LockAll
returns-in-LockAll c = λ past is.
    let own : OpenEpochs = c.args.self.now in
    next_epoch c.args.number c.args.call.now (LockAll c.in-LockAll.window c.in-LockAll.assertions) c.in-LockAll.is past own (record own { lock_all = Some c.args.number; phase = c.phase_if_used-self-in-LockAll.result }) is
    (record { start = refl; post = refl; lock_all = refl; lock_on = λ t. refl; phase = c.phase_if_used-self-in-LockAll.ensures; freed = refl })

pub returns-in-UnlockAll : goal.returns-in-UnlockAll
returns-in-UnlockAll c = λ past is.
    let own : OpenEpochs = c.args.self.now in
    next_epoch c.args.number c.args.call.now (UnlockAll c.in-UnlockAll.window) c.in-UnlockAll.is past own (record own { lock_all = None }) is
    (record { start = refl; post = refl; lock_all = refl; lock_on = λ t. refl; phase = refl; freed = refl })

pub returns-in-Flush : goal.returns-in-Flush
returns-in-Flush c = λ past is.
    let own : OpenEpochs = c.args.self.now in
    next_epoch c.args.number c.args.call.now (Flush c.in-Flush.window c.in-Flush.target) c.in-Flush.is past own own is
    (record { start = refl; post = refl; lock_all = refl; lock_on = λ t. refl; phase = refl; freed = refl })

pub returns-in-FlushAll : goal.returns-in-FlushAll
returns-in-FlushAll c = λ past is.
    let own : OpenEpochs = c.args.self.now in
    next_epoch c.args.number c.args.call.now (FlushAll c.in-FlushAll.window) c.in-FlushAll.is past own own is
    (record { start = refl; post = refl; lock_all = refl; lock_on = λ t. refl; phase = refl; freed = refl })

pub returns-in-FlushLocal : goal.returns-in-FlushLocal
returns-in-FlushLocal c = λ past is.
    let own : OpenEpochs = c.args.self.now in
    next_epoch c.args.number c.args.call.now (FlushLocal c.in-FlushLocal.window c.in-FlushLocal.target) c.in-FlushLocal.is past own own is
    (record { start = refl; post = refl; lock_all = refl; lock_on = λ t. refl; phase = refl; freed = refl })

pub returns-in-FlushLocalAll : goal.returns-in-FlushLocalAll
returns-in-FlushLocalAll c = λ past is.
    let own : OpenEpochs = c.args.self.now in
    next_epoch c.args.number c.args.call.now (FlushLocalAll c.in-FlushLocalAll.window) c.in-FlushLocalAll.is past own own is
    (record { start = refl; post = refl; lock_all = refl; lock_on = λ t. refl; phase = refl; freed = refl })

pub returns-in-Sync : goal.returns-in-Sync
returns-in-Sync c = λ past is.
    let own : OpenEpochs = c.args.self.now in
    next_epoch c.args.number c.args.call.now (epoch.Sync c.in-Sync.window) c.in-Sync.is past own own is
    (record { start = refl; post = refl; lock_all = refl; lock_on = λ t. refl; phase = refl; freed = refl })
