-- The epoch that reaches a target, and the one that a call closes (MPI 4.0, "One-Sided Communications").
use Rattle.std.specs.Prelude.{ℕ, List, [], Option, Some, None, option_map, if◌then◌else◌}
use Rattle.std.specs.List.{cons_option}
use Rattle.std.specs.Option.{option_and_then, option_or}
use Rattle.rma_base.specs.RankSet.{has_number}
use Rattle.rma_base.specs.declared.rank.Rank.{Rank}
use Rattle.rma_call.specs.declared.what.What.{What}
use Rattle.rma_call.specs.declared.what.What.TheVariants.{Sync, Rma}
use Rattle.rma_call.specs.declared.what.SyncCall.TheVariants as sync
use Rattle.rma_call.specs.declared.epoch.EpochCall.TheVariants as epoch
use Rattle.rma_open.specs.declared.opening.Opening.{Opening}
use Rattle.rma_open.specs.declared.opening.EpochKind.TheVariants.{Fence, Start, Lock, LockAll}
use Rattle.rma_open.specs.Open.{Open}

-- ---- the epoch that reaches a target

-- the lock of the target
abbrev pub by_lock : Open → Rank → Option Opening
by_lock own target = option_map (λ lock. record { kind = Lock lock.exclusive; opener = lock.opener }) (own.lock_on target.0)

-- the lockall
abbrev pub by_lock_all : Open → Option Opening
by_lock_all own = option_map (λ opener. record { kind = LockAll; opener = opener }) own.lock_all

-- the start, where its group has the target
abbrev pub by_start : Open → Rank → Option Opening
by_start own target = option_and_then (λ start. if has_number target.0 start.targets then Some (record { kind = Start; opener = start.opener }) else None) own.start

-- the phase
abbrev pub by_phase : Open → Option Opening
by_phase own = option_map (λ phase. record { kind = Fence; opener = phase.opener }) own.phase

-- all that reach a target
abbrev pub all_reaching : Open → Rank → List Opening
all_reaching own target = cons_option (by_lock own target) (cons_option (by_lock_all own) (cons_option (by_start own target) (cons_option (by_phase own) [])))

-- the first that reaches a target. A sound access has one alone, so the order in which they are asked tells nothing
abbrev pub reaching : Open → Rank → Option Opening
reaching own target = option_or (by_lock own target) (option_or (by_lock_all own) (option_or (by_start own target) (by_phase own)))

-- the epoch in which a call stands, where it is an access to a target and this is open on its window
abbrev pub opening_in : Open → What → Option Opening
opening_in own (Rma call) = option_and_then (reaching own) call.target
opening_in own _ = None

-- ---- what a call closes

-- the call that opened what a call closes, where this is open on its window: a fence closes the phase, a complete the start,
-- an unlock the lock of its target, an unlockall the lockall, and an expwait the post
abbrev pub closed_by : Open → What → Option ℕ
closed_by own (Sync (sync.Epoch (epoch.Fence window assertions))) = option_map (λ phase. phase.opener) own.phase
closed_by own (Sync (sync.Epoch (epoch.Complete window))) = option_map (λ start. start.opener) own.start
closed_by own (Sync (sync.Epoch (epoch.Unlock window target))) = option_map (λ lock. lock.opener) (own.lock_on target.0)
closed_by own (Sync (sync.Epoch (epoch.UnlockAll window))) = own.lock_all
closed_by own (Sync (sync.Epoch (epoch.Expwait window))) = own.post
closed_by own _ = None
