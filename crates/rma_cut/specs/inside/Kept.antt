-- Links that lead to no point of a cut from one that it has not.
use Rattle.std.specs.Prelude.{ℕ, List, All, Contains}
use Rattle.rma_link.specs.declared.edge.Edge.{Edge}
use Rattle.rma_link.specs.declared.meet.Member.{Member}
use Rattle.rma_link.specs.declared.meet.Meet.{Meet}
use Rattle.rma_link.specs.Point.{entry, return_of}
use Rattle.rma_clock.specs.Reached.{IsReached}

-- a cut has where an edge comes from, if it has where this leads
abbrev pub IsEdgeKept : List ℕ → Edge → Type 0
IsEdgeKept cut edge = IsReached cut edge.to → IsReached cut edge.from

-- a member of a meet is entered
abbrev pub HasEntry : List ℕ → Member → Type 0
HasEntry cut member = IsReached cut (entry member.rank member.call)

-- all members of a meet are entered, if one has returned
abbrev pub IsMeetKept : List ℕ → Meet → Type 0
IsMeetKept cut meet = (m : Member) → Contains meet.calls m → IsReached cut (return_of m.rank m.call) → All (HasEntry cut) meet.calls
