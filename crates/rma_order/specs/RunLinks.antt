-- The links between the calls of a run (MPI 4.0, "Point-to-Point Communication", "Collective Communication" and "One-Sided
-- Communications").
use Rattle.std.specs.Prelude.{List, ◌++◌}
use Rattle.rma_base.specs.declared.point.Point.{Point}
use Rattle.rma_call.specs.Call.{RankCalls}
use Rattle.rma_link.specs.declared.links.Links.{Links}
use Rattle.rma_link.specs.Link.{IsLinked}
use Rattle.rma_message.specs.Messages.{message_edges}
use Rattle.rma_exposure.specs.Edge.{exposure_edges}
use Rattle.rma_round.specs.Edge.{round_edges}
use Rattle.rma_round.specs.Meet.{round_meets}

-- the links of a run: an edge for each message, for each complete that an expwait waits for, and between a root and the other
-- members of its round; and a meet for each round whose calls wait for one another
abbrev pub links_of : List RankCalls → Links
links_of ranks = record { edges = message_edges ranks ++ exposure_edges ranks ++ round_edges ranks; meets = round_meets ranks }

-- links that lead from and to the same points
pub record LinkTheSame (links others : Links) : Type 0 where
  pub only : (from to : Point) → IsLinked links from to → IsLinked others from to
  pub all : (from to : Point) → IsLinked others from to → IsLinked links from to
