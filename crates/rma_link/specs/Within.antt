-- Links between the calls of a run.
use Rattle.std.specs.Prelude.{ℕ, ◌<◌, List, map, All}
use Rattle.std.specs.List.Sorted.{IsStrictlyIncreasing}
use Rattle.rma_link.specs.declared.edge.Edge.{Edge}
use Rattle.rma_link.specs.declared.meet.Member.{Member}
use Rattle.rma_link.specs.declared.meet.Meet.{Meet}
use Rattle.rma_link.specs.declared.links.Links.{Links}
use Rattle.rma_link.specs.Point.{calls_of, IsEntry, IsReturn}

-- an edge leads from the entry of a call of the run to the return of one
abbrev pub IsEdgeWithin : List ℕ → Edge → Type 0
IsEdgeWithin lens edge = IsEntry lens edge.from × IsReturn lens edge.to

-- a member of a meet is a call of the run
abbrev pub IsMemberWithin : List ℕ → Member → Type 0
IsMemberWithin lens member = member.call < calls_of lens member.rank

-- a meet has calls of the run, one a rank, by ascending ranks
abbrev pub IsMeetWithin : List ℕ → Meet → Type 0
IsMeetWithin lens meet = All (IsMemberWithin lens) meet.calls × IsStrictlyIncreasing (map (λ m. m.rank.0) meet.calls)

-- all links are between calls of a run whose ranks make so many calls
pub record AreWithin (lens : List ℕ) (links : Links) : Type 0 where
  pub edges : All (IsEdgeWithin lens) links.edges
  pub meets : All (IsMeetWithin lens) links.meets
