use Rattle.std.proofs.Common.{[]}
use Rattle.rma_link.specs.declared.links.Links.{Links}
use Rattle.rma_clock.specs.Reached.{points_of}
use Rattle.rma_run.specs.Run.{lens_of}
use Rattle.rma_concurrent.specs.inside.Places.{HasMore, IsFrom}
use Rattle.rma_dyn.specs.inside.Run.{IsOfRank}
use Rattle.rma_dyn.proofs.regions.found_in.Given as goal

-- the ranks before are asked
abbrev pub invariant-loop-own : goal.invariant-loop-own
invariant-loop-own g l = (links : Links) → g.C.Clocks.are_of l.clocks (points_of (lens_of l.ranks)) links
    → HasMore (IsFrom (IsOfRank links l.windows l.known.list.items l.ranks) l.ranks 0 l.own-index) [] l.found.items
