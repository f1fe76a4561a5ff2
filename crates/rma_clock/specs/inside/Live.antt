-- Clocks of points that are settled one by one.
use Rattle.std.specs.Prelude.{ℕ, ◌≡◌, ◌<◌, List, [], sum, All, Contains}
use Rattle.rma_base.specs.declared.point.Point.{Point}
use Rattle.rma_link.specs.declared.edge.Edge.{Edge}
use Rattle.rma_link.specs.declared.links.Links.{Links}
use Rattle.rma_link.specs.Order.{IsAtOrBefore}
use Rattle.rma_clock.specs.declared.step.Step.{Step}
use Rattle.rma_clock.specs.declared.table.Table.{Table}
use Rattle.rma_clock.specs.declared.live.LiveClocks.{LiveClocks}
use Rattle.rma_clock.specs.Reached.{IsReached}
use Rattle.rma_clock.specs.inside.Before.{point_at}
use Rattle.rma_clock.specs.inside.Table.{IsWhole, steps_of, entry_before}

-- a point is at or before the one before this
abbrev pub IsBeforeOwn : Links → Point → Point → Type 0
IsBeforeOwn links point p = (0 < point.pos) × IsAtOrBefore links p (entry_before point)

-- a point is at or before one of these
abbrev pub IsBeforePoints : Links → List Point → Point → Type 0
IsBeforePoints links sources p = (e : Point) × Contains sources e × IsAtOrBefore links p e

-- an edge leads from one reached point to another
abbrev pub IsEdgeReached : List ℕ → Edge → Type 0
IsEdgeReached points edge = IsReached points edge.from × IsReached points edge.to

-- a table of the settled points, whose links are edges between them
pub record IsLive (points : List ℕ) (links : Links) (table : Table) : Type 0 where
  pub whole : IsWhole points links table
  pub closed : All (IsEdgeReached points) links.edges
  pub no_meets : links.meets ≡ []
  pub steps : (rank : ℕ) (s : Step) → Contains (steps_of table.steps.items rank) s → IsReached points (point_at rank s.pos)

-- the clocks of the settled points, so many of each rank, with these edges
pub record AreLive (points : List ℕ) (links : Links) (clocks : LiveClocks) : Type 0 where
  pub live : IsLive points links clocks.table
  pub reached : clocks.reached ≡ points
  pub taken : clocks.taken ≡ sum points
