-- The words of the reasons of an epoch fault (the report of this product).
use Rattle.std.specs.Prelude.{ℕ, List, codes}
use Rattle.rma_base.specs.declared.epoch_reason.EpochReason.{EpochReason}
use Rattle.rma_base.specs.declared.epoch_reason.EpochReason.TheVariants.{NotMember, NoEpoch, RequestOutsidePassive, OutsideWindow, FlushOutsidePassive, AccessOverlap, FenceInEpoch, NoPrecedeBroken, ExposureOverlap, CloseWithoutOpen, EpochLeftOpen}

-- the word that the report has for a reason
abbrev pub epoch_word : EpochReason → List ℕ
epoch_word NotMember = codes "not_member"
epoch_word NoEpoch = codes "no_epoch"
epoch_word RequestOutsidePassive = codes "request_outside_passive"
epoch_word OutsideWindow = codes "outside_window"
epoch_word FlushOutsidePassive = codes "flush_outside_passive"
epoch_word AccessOverlap = codes "access_overlap"
epoch_word FenceInEpoch = codes "fence_in_epoch"
epoch_word NoPrecedeBroken = codes "no_precede_broken"
epoch_word ExposureOverlap = codes "exposure_overlap"
epoch_word CloseWithoutOpen = codes "close_without_open"
epoch_word EpochLeftOpen = codes "epoch_left_open"
