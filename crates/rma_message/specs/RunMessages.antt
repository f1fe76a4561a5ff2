-- The messages of a run, as they match (MPI 4.0, "Point-to-Point Communication").
use Rattle.std.specs.Prelude.{List}
use Rattle.rma_call.specs.declared.match_fault.MatchFault.{MatchFault}
use Rattle.rma_link.specs.declared.edge.Edge.{Edge}

-- the faults of the ends that nothing matches, and the edges of those that match
pub record RunMessages : Type 0 where
  pub faults : List MatchFault
  pub edges : List Edge
