-- Ranks that go in step, so that the positions of points alone order them (MPI 4.0, "MPI Terms and Conventions").
use Rattle.std.specs.Prelude.{ℕ, ◌≡◌, ◌<◌, List, All}
use Rattle.rma_link.specs.declared.edge.Edge.{Edge}
use Rattle.rma_link.specs.declared.meet.Member.{Member}
use Rattle.rma_link.specs.declared.links.Links.{Links}

-- an edge leads to a higher position
abbrev pub IsEdgeOn : Edge → Type 0
IsEdgeOn edge = edge.from.pos < edge.to.pos

-- these calls have one number
pub record AreOfOneNumber (members : List Member) : Type 0 where
  pub number : ℕ
  pub all : All (λ m. m.call ≡ number) members

-- no link leads back
pub record AreInStep (links : Links) : Type 0 where
  pub edges : All IsEdgeOn links.edges
  pub meets : All (λ meet. AreOfOneNumber meet.calls) links.meets
