-- Posts and starts that have no match (MPI 4.0, "One-Sided Communications").
use Rattle.std.specs.Prelude.{ℕ, List, [], ◌∷◌, ◌++◌, Bool, None, is_none, if◌then◌else◌}
use Rattle.std.specs.List.{list_any}
use Rattle.std.specs.Option.{option_map_or}
use Rattle.rma_base.specs.declared.rank.Rank.{Rank}
use Rattle.rma_base.specs.declared.match_reason.MatchReason.{MatchReason}
use Rattle.rma_base.specs.declared.match_reason.MatchReason.TheVariants.{PostUnmatched, StartUnmatched}
use Rattle.rma_call.specs.Call.{Call, RankCalls}
use Rattle.rma_call.specs.declared.match_fault.MatchFault.{MatchFault}
use Rattle.rma_run.specs.Run.{calls_of, by_rank}
use Rattle.rma_exposure.specs.declared.side.Side.{Side}
use Rattle.rma_exposure.specs.declared.side.Side.TheVariants.{Exposure, Access}
use Rattle.rma_exposure.specs.Opening.{Opening, opened}
use Rattle.rma_exposure.specs.Matching.{match_of}

-- the reason why a post, or a start, is at fault
abbrev pub reason_of : Side → MatchReason
reason_of Exposure = PostUnmatched
reason_of Access = StartUnmatched

-- whether some rank of its group makes no call that matches the call of this number of a rank
abbrev pub lacks_match : Side → (ℕ → List Call) → ℕ → ℕ → Opening → Bool
lacks_match side calls rank number opening = list_any (λ other. is_none (match_of side opening.window calls rank number other)) opening.group

-- the fault of a call that opens an epoch of the side, one where any ranks of its group make no call that matches it
abbrev pub faults_at : Side → (ℕ → List Call) → Rank → ℕ → Call → List MatchFault
faults_at side calls rank number call =
    option_map_or (λ opening. if lacks_match side calls rank.0 number opening then record { reason = reason_of side; rank = rank; line = call.line; other = None } ∷ [] else [])
    (opened side call.what) []

-- the faults of all posts, or of all starts, by rank and then by line
abbrev pub faults_of : Side → List RankCalls → List MatchFault
faults_of side ranks = by_rank (faults_at side (calls_of ranks)) ranks

-- the faults of a run: those of its posts, and then those of its starts
abbrev pub exposure_faults : List RankCalls → List MatchFault
exposure_faults ranks = faults_of Exposure ranks ++ faults_of Access ranks
