-- Why a call stands in no epoch that allows it, where its ranks all have a part of its window.
use Rattle.std.specs.Prelude.{[], Option, None, find}
use Rattle.rma_base.specs.declared.epoch_reason.EpochReason.{EpochReason}
use Rattle.rma_call.specs.declared.what.What.TheVariants.{Sync}
use Rattle.rma_call.specs.declared.what.SyncCall.TheVariants.{Epoch}
use Rattle.rma_call.specs.declared.epoch.EpochCall.{EpochCall}
use Rattle.rma_open.specs.Open.{Open}
use Rattle.rma_open.specs.Reason.{holds, other_reasons}

-- the first reason but the one that asks for parts, of a call that opens, completes or closes an epoch. No windows tell it
abbrev pub member_reason : Open → EpochCall → Option EpochReason
member_reason own call = find (holds [] own (Sync (Epoch call)) None) other_reasons
