-- The words of the reasons of a fault of matching (the report of this product).
use Rattle.std.specs.Prelude.{ℕ, List, codes}
use Rattle.rma_base.specs.declared.match_reason.MatchReason.{MatchReason}
use Rattle.rma_base.specs.declared.match_reason.MatchReason.TheVariants.{SendUnreceived, ReceiveUnsent, CollectiveDiffers, CollectiveMissing, AssertDiffers, PostUnmatched, StartUnmatched, WindowDiffers, CommDiffers, DataDiffers, DataMissing}

-- the word that the report has for a reason
abbrev pub match_word : MatchReason → List ℕ
match_word SendUnreceived = codes "send_unreceived"
match_word ReceiveUnsent = codes "receive_unsent"
match_word CollectiveDiffers = codes "collective_differs"
match_word CollectiveMissing = codes "collective_missing"
match_word AssertDiffers = codes "assert_differs"
match_word PostUnmatched = codes "post_unmatched"
match_word StartUnmatched = codes "start_unmatched"
match_word WindowDiffers = codes "window_differs"
match_word CommDiffers = codes "comm_differs"
match_word DataDiffers = codes "data_differs"
match_word DataMissing = codes "data_missing"
