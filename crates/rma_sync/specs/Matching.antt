-- All calls that the calls of other ranks do not match (MPI 4.0, "Point-to-Point Communication", "Collective
-- Communication", "One-Sided Communications", and "Groups, Contexts, Communicators, and Caching").
use Rattle.std.specs.Prelude.{List, [], ◌∷◌}
use Rattle.std.specs.List.{flat_map}
use Rattle.rma_base.specs.declared.match_reason.MatchReason.{MatchReason}
use Rattle.rma_base.specs.declared.match_reason.MatchReason.TheVariants.{SendUnreceived, ReceiveUnsent, CollectiveDiffers, CollectiveMissing, AssertDiffers, PostUnmatched, StartUnmatched, WindowDiffers, CommDiffers, DataDiffers, DataMissing}
use Rattle.rma_call.specs.Call.{RankCalls}
use Rattle.rma_call.specs.declared.match_fault.MatchFault.{MatchFault}
use Rattle.rma_message.specs.Messages.{messages_of}
use Rattle.rma_message.specs.Matching.{unmatched}
use Rattle.rma_exposure.specs.declared.side.Side.TheVariants as side
use Rattle.rma_exposure.specs.Fault as exposure
use Rattle.rma_member.specs.Declaration.{declarations}
use Rattle.rma_member.specs.Attribute.{declared, same_ranks, created, same_attributes}
use Rattle.rma_member.specs.Difference.{differences}
use Rattle.rma_round.specs.declared.kind.Kind.TheVariants as kind
use Rattle.rma_agreement.specs.Collective.{round_calls}
use Rattle.rma_agreement.specs.Round.{round_differences}
use Rattle.rma_missing.specs.Missing.{missing_calls, missing_data}

-- the faults of one reason, by rank and then by line
abbrev pub faults_of : List RankCalls → MatchReason → List MatchFault
faults_of ranks SendUnreceived = unmatched SendUnreceived (messages_of ranks).receives (messages_of ranks).sends
faults_of ranks ReceiveUnsent = unmatched ReceiveUnsent (messages_of ranks).sends (messages_of ranks).receives
faults_of ranks CollectiveDiffers = round_differences kind.Collective (round_calls kind.Collective ranks)
faults_of ranks CollectiveMissing = missing_calls ranks
faults_of ranks AssertDiffers = round_differences kind.Fence (round_calls kind.Fence ranks)
faults_of ranks PostUnmatched = exposure.faults_of side.Exposure ranks
faults_of ranks StartUnmatched = exposure.faults_of side.Access ranks
faults_of ranks WindowDiffers = differences same_attributes WindowDiffers (declarations created ranks)
faults_of ranks CommDiffers = differences same_ranks CommDiffers (declarations declared ranks)
faults_of ranks DataDiffers = round_differences kind.Moving (round_calls kind.Moving ranks)
faults_of ranks DataMissing = missing_data ranks

-- the faults of all reasons, in the order of the reasons
abbrev pub match_faults : List RankCalls → List MatchFault
match_faults ranks =
    flat_map (faults_of ranks)
    (SendUnreceived ∷ ReceiveUnsent ∷ CollectiveDiffers ∷ CollectiveMissing ∷ AssertDiffers ∷ PostUnmatched ∷ StartUnmatched ∷ WindowDiffers ∷ CommDiffers ∷ DataDiffers ∷ DataMissing ∷ [])
