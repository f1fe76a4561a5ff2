-- The reasons for which memory of a dynamic window is not as it has to be, in their order, and their words (MPI 4.0, "One-Sided
-- Communications", dynamically attached memory).
use Rattle.std.specs.Prelude.{ℕ, List, codes}
use Rattle.rma_dyn.specs.declared.reason.RegionReason.{RegionReason}
use Rattle.rma_dyn.specs.declared.reason.RegionReason.TheVariants.{AttachOverlap, DetachUnknown, Unattached, DetachUnordered}

-- the word that the report has for a reason
abbrev pub reason_word : RegionReason → List ℕ
reason_word AttachOverlap = codes "attach_overlap"
reason_word DetachUnknown = codes "detach_unknown"
reason_word Unattached = codes "unattached"
reason_word DetachUnordered = codes "detach_unordered"

-- the place of a reason among them
abbrev pub reason_place : RegionReason → ℕ
reason_place AttachOverlap = 0
reason_place DetachUnknown = 1
reason_place Unattached = 2
reason_place DetachUnordered = 3
