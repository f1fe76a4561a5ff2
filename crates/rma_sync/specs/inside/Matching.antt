-- The faults of rounds, windows and communicators, before and behind those of posts and starts.
use Rattle.std.specs.Prelude.{List, ◌++◌}
use Rattle.rma_base.specs.declared.match_reason.MatchReason.TheVariants.{CollectiveDiffers, CollectiveMissing, AssertDiffers, WindowDiffers, CommDiffers, DataDiffers, DataMissing}
use Rattle.rma_call.specs.Call.{RankCalls}
use Rattle.rma_call.specs.declared.match_fault.MatchFault.{MatchFault}
use Rattle.rma_sync.specs.Matching.{faults_of}

abbrev pub first_faults : List RankCalls → List MatchFault
first_faults ranks = (faults_of ranks CollectiveDiffers ++ faults_of ranks CollectiveMissing) ++ faults_of ranks AssertDiffers

abbrev pub last_faults : List RankCalls → List MatchFault
last_faults ranks = ((faults_of ranks WindowDiffers ++ faults_of ranks CommDiffers) ++ faults_of ranks DataDiffers) ++ faults_of ranks DataMissing
