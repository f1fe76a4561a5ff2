use Rattle.rma_clock.specs.Reached.{points_of}
use Rattle.rma_link.specs.declared.links.Links.{Links}
use Rattle.rma_run.specs.Run.{calls_of, lens_of}
use Rattle.rma_concurrent.specs.inside.Places.{HasMore}
use Rattle.rma_assert.specs.inside.Gathered.{IsAtPlace, IsUpTo}
use Rattle.rma_assert.specs.inside.Started.{IsOfTarget}
use Rattle.rma_assert.proofs.starts.add_of_targets.Given as goal

-- the targets before are asked
abbrev pub invariant-loop-target : goal.invariant-loop-target
invariant-loop-target g l = (links : Links) → g.C.Clocks.are_of l.clocks (points_of (lens_of l.ranks)) links
    → HasMore (IsUpTo (IsAtPlace (IsOfTarget links (calls_of l.ranks) l.start) l.targets) l.target-index) l.initial.found.items l.found.items
