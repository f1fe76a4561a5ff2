use Rattle.rma_link.specs.declared.links.Links.{Links}
use Rattle.rma_clock.specs.Reached.{points_of}
use Rattle.rma_run.specs.Run.{lens_of}
use Rattle.rma_accesses.specs.inside.Kept.{rank_of}
use Rattle.rma_span.specs.Span.{origin_of, spanned_calls}
use Rattle.rma_concurrent.specs.inside.Places.{HasMore, IsFrom}
use Rattle.rma_dyn.specs.inside.Run.{IsAtNumber}
use Rattle.rma_dyn.proofs.regions.add_rank.Given as goal

-- the calls before are asked
abbrev pub invariant-loop-index : goal.invariant-loop-index
invariant-loop-index g l = (links : Links) → g.C.Clocks.are_of l.clocks (points_of (lens_of l.ranks)) links
    → HasMore (IsFrom (IsAtNumber links l.windows l.known.list.items (origin_of l.ranks (rank_of l.own))) (spanned_calls (origin_of l.ranks (rank_of l.own))) 0 l.index) l.initial.found.items l.found.items
