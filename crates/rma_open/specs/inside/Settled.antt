-- What of a call on a window is settled, whatever is open there.
use Rattle.std.specs.Prelude.{ℕ, List, [], Bool, true, false, not, ◌&&◌, Option, Some, None, is_some, find, if◌then◌else◌}
use Rattle.std.specs.Option.{option_map_or}
use Rattle.rma_base.specs.declared.epoch_reason.EpochReason.{EpochReason}
use Rattle.rma_base.specs.declared.epoch_reason.EpochReason.TheVariants.{NoEpoch, OutsideWindow, RequestOutsidePassive}
use Rattle.rma_call.specs.declared.what.What.{What}
use Rattle.rma_call.specs.declared.what.What.TheVariants.{Rma}
use Rattle.rma_window.specs.Windows.{Window}
use Rattle.rma_open.specs.declared.opening.EpochKind.{EpochKind}
use Rattle.rma_open.specs.declared.opening.EpochKind.TheVariants.{Lock, LockAll}
use Rattle.rma_open.specs.declared.opening.Opening.{Opening}
use Rattle.rma_open.specs.declared.settled.Settled.{Settled}
use Rattle.rma_open.specs.Open.{Open}
use Rattle.rma_open.specs.Reason.{holds, not_member, other_reasons, outside_window}

-- what is settled of a call that does this
abbrev pub settled_by : List Window → What → Settled
settled_by windows what = record { not_member = not_member windows what; outside_window = outside_window windows what }

-- whether an access is settled to touch a byte outside its target's part
abbrev pub is_settled_outside : Settled → What → Bool
is_settled_outside settled (Rma call) = settled.outside_window
is_settled_outside settled _ = false

-- whether this is a reason of a call whose ranks all have a part of the window. No windows tell it but by what is settled
abbrev pub holds_among : Settled → Open → What → Option ℕ → EpochReason → Bool
holds_among settled own what request OutsideWindow = is_settled_outside settled what
holds_among settled own what request reason = holds [] own what request reason

-- the first reason of such a call
abbrev pub reason_among : Settled → Open → What → Option ℕ → Option EpochReason
reason_among settled own what request = find (holds_among settled own what request) other_reasons

-- the first reason of an access, where some epoch reaches its target or none, and is a lock or not
abbrev pub access_reason : Bool → Bool → Settled → Option ℕ → Option EpochReason
access_reason reached passive settled request =
    if not reached then Some NoEpoch else (if is_some request && not passive then Some RequestOutsidePassive else (if settled.outside_window then Some OutsideWindow else None))

-- whether an epoch of this kind is that of a lock, of one target or of all
abbrev pub is_lock : EpochKind → Bool
is_lock (Lock exclusive) = true
is_lock LockAll = true
is_lock _ = false

-- whether an epoch is one of a lock
abbrev pub in_lock : Option Opening → Bool
in_lock opening = option_map_or (λ o. is_lock o.kind) opening false
