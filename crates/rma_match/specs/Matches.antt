-- Which calls of a run match (MPI 4.0, "Point-to-Point Communication", "Collective Communication" and "One-Sided
-- Communications").
use Rattle.std.specs.Prelude.{◌≡◌, List}
use Rattle.rma_call.specs.Call.{RankCalls}
use Rattle.rma_run.specs.Run.{calls_of}
use Rattle.rma_message.specs.Messages.{message_edges, message_faults}
use Rattle.rma_round.specs.inside.Rounds as round
use Rattle.rma_exposure.specs.inside.Epochs as exposure
use Rattle.rma_match.specs.declared.matches.Matches.{Matches}

-- these are the matches of the calls of a run
pub record AreMatches (ranks : List RankCalls) (matches : Matches) : Type 0 where
  pub messages : matches.messages ≡ record { faults = message_faults ranks; edges = message_edges ranks }
  pub rounds : round.Represents (calls_of ranks) matches.rounds
  pub exposures : exposure.Represents (calls_of ranks) matches.exposures
