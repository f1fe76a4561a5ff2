use Rattle.std.proofs.Common.{ap, ◌∙◌}
use Rattle.rma_base.specs.declared.match_reason.MatchReason.TheVariants.{SendUnreceived, ReceiveUnsent, CollectiveDiffers, CollectiveMissing, AssertDiffers, PostUnmatched, StartUnmatched, WindowDiffers, CommDiffers, DataDiffers, DataMissing}
use Rattle.rma_message.specs.RunMessages.{RunMessages}
use Rattle.rma_sync.specs.Matching.{faults_of}
use Rattle.rma_sync.proofs.AppendLemmas.{appended, joined}
use Rattle.rma_sync.proofs.matching.match_faults.Goals as goal

pub returns : goal.returns
returns c =
    let ranks = c.args.ranks.now in
    let messages = c.in_ok-faults.ensures ∙ ap (λ (m : RunMessages). m.faults) c.requires.matches.messages in
    let rounds = appended c.in_ok-append.ensures messages c.in_ok-rounds.ensures.first in
    let exposures = appended c.in_ok-append-2.ensures rounds c.in_ok-faults-2.ensures in
    appended c.in_ok-append-3.ensures exposures c.in_ok-rounds.ensures.last
    ∙ joined (faults_of ranks SendUnreceived) (faults_of ranks ReceiveUnsent) (faults_of ranks CollectiveDiffers) (faults_of ranks CollectiveMissing) (faults_of ranks AssertDiffers)
    (faults_of ranks PostUnmatched) (faults_of ranks StartUnmatched) (faults_of ranks WindowDiffers) (faults_of ranks CommDiffers) (faults_of ranks DataDiffers) (faults_of ranks DataMissing)
