use Rattle.std.proofs.Common.{◌<◌, ◌≡◌, ◌/◌, ℕ, List, Some, slice_get}
use Rattle.rma_base.specs.declared.point.Point.{Point}
use Rattle.rma_call.specs.Call.{RankCalls}
use Rattle.rma_clock.specs.Reached.{points_of}
use Rattle.rma_link.specs.declared.links.Links.{Links}
use Rattle.rma_run.specs.Run.{lens_of}
use Rattle.rma_races.specs.Run.{AreOfRun}
use Rattle.rma_races.specs.inside.Taking.{IsTaking, IsThrough}
use Rattle.rma_races.proofs.races.found_in.Given as goal

-- the accesses of all calls were taken that are entered at the first points
abbrev pub invariant-loop-point : goal.invariant-loop-point
invariant-loop-point g l =
    (ranks : List RankCalls) (links : Links) → AreOfRun ranks l.run l.windows l.points → g.C.Clocks.are_of l.clocks (points_of (lens_of ranks)) links
    → IsTaking links l.windows l.run.lists ranks l.taking × ((j : ℕ) (p : Point) → j < l.point-index → slice_get l.points j ≡ Some p → IsThrough ranks l.taking.taken.items p.rank.0 (p.pos / 2))
