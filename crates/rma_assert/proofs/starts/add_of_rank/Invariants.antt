use Rattle.rma_clock.specs.Reached.{points_of}
use Rattle.rma_link.specs.declared.links.Links.{Links}
use Rattle.rma_run.specs.Run.{calls_of, lens_of}
use Rattle.rma_concurrent.specs.inside.Places.{HasMore}
use Rattle.rma_assert.specs.inside.Gathered.{IsUpTo}
use Rattle.rma_assert.specs.inside.Started.{IsOfStart}
use Rattle.rma_assert.proofs.starts.add_of_rank.Given as goal

-- the calls before are asked
abbrev pub invariant-loop-number : goal.invariant-loop-number
invariant-loop-number g l = (links : Links) → g.C.Clocks.are_of l.clocks (points_of (lens_of l.ranks)) links
    → HasMore (IsUpTo (IsOfStart links (calls_of l.ranks) l.own.rank) l.number) l.initial.found.items l.found.items
