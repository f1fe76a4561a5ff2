-- What is open after one more call.
use Rattle.std.specs.Prelude.{◌≡◌, ℕ, List, ◌∷◌, true, false, ◌||◌, Option, Some, None, is_none, option_map, unwrap_or, if◌then◌else◌}
use Rattle.std.specs.Option.{option_and_then}
use Rattle.rma_base.specs.declared.epoch_reason.EpochReason.{EpochReason}
use Rattle.rma_call.specs.declared.what.What.{What}
use Rattle.rma_call.specs.declared.what.What.TheVariants.{Sync, Rma}
use Rattle.rma_call.specs.declared.what.SyncCall.TheVariants.{Epoch}
use Rattle.rma_call.specs.declared.epoch.EpochCall.TheVariants.{Fence, Start, Lock, LockAll}
use Rattle.rma_open.specs.declared.opening.FencePhase.{FencePhase}
use Rattle.rma_open.specs.Open.{Open, of_start, of_post, of_lock_all, of_lock, frees}

-- a phase that ends unless it is used
abbrev pub kept_if_used : FencePhase → Option FencePhase
kept_if_used phase = if phase.used then Some phase else None

-- a phase that is used
abbrev pub with_use : FencePhase → FencePhase
with_use phase = record phase { used = true }

-- the phase after the call of this number, where this phase is open before it
abbrev pub next_phase : ℕ → What → Option FencePhase → Option FencePhase
next_phase number (Rma call) phase = option_map with_use phase
next_phase number (Sync (Epoch (Fence window assertions))) phase = if assertions.nosucceed then None else Some (record { opener = number; used = false })
next_phase number (Sync (Epoch (Start window targets assertions))) phase = option_and_then kept_if_used phase
next_phase number (Sync (Epoch (Lock window target kind assertions))) phase = option_and_then kept_if_used phase
next_phase number (Sync (Epoch (LockAll window assertions))) phase = option_and_then kept_if_used phase
next_phase number _ phase = phase

-- what is open before and after the call of this number
pub record IsNext (number : ℕ) (what : What) (old new : Open) : Type 0 where
  pub start : new.start ≡ unwrap_or (of_start number what) old.start
  pub post : new.post ≡ unwrap_or (of_post number what) old.post
  pub lock_all : new.lock_all ≡ unwrap_or (of_lock_all number what) old.lock_all
  pub lock_on : (target : ℕ) → new.lock_on target ≡ unwrap_or (of_lock target number what) (old.lock_on target)
  pub phase : new.phase ≡ next_phase number what old.phase
  pub freed : new.freed ≡ (frees what || old.freed)

-- the calls on a window with one more, unless that has a reason
abbrev pub past_with : Option EpochReason → ℕ × What → List (ℕ × What) → List (ℕ × What)
past_with reason call past = if is_none reason then call ∷ past else past
