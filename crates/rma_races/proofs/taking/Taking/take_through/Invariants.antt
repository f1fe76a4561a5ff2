use Rattle.std.proofs.Common.{◌≡◌, List, Some, slice_get}
use Rattle.rma_call.specs.Call.{RankCalls}
use Rattle.rma_clock.specs.Reached.{points_of}
use Rattle.rma_link.specs.declared.links.Links.{Links}
use Rattle.rma_run.specs.Run.{lens_of}
use Rattle.rma_accesses.specs.inside.Kept.{IsAccessesOf, rank_of}
use Rattle.rma_races.specs.inside.Taking.{IsFurther, IsKnown, IsTaking}
use Rattle.rma_races.proofs.taking.Taking.take_through.Given as goal

-- the accesses of the first calls were taken
abbrev pub invariant-loop-index : goal.invariant-loop-index
invariant-loop-index g l =
    (slice_get l.self.taken.items l.rank ≡ Some l.index) × IsFurther l.initial.self.taken.items l.self.taken.items
    × ((ranks : List RankCalls) (links : Links) → IsKnown ranks l.windows l.lists → IsAccessesOf ranks l.own → slice_get ranks l.rank ≡ Some (rank_of l.own)
    → g.C.Clocks.are_of l.clocks (points_of (lens_of ranks)) links → IsTaking links l.windows l.lists ranks l.initial.self → IsTaking links l.windows l.lists ranks l.self)
