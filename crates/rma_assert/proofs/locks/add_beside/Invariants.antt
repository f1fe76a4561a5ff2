use Rattle.rma_clock.specs.Reached.{points_of}
use Rattle.rma_link.specs.declared.links.Links.{Links}
use Rattle.rma_run.specs.Run.{calls_of, lens_of}
use Rattle.rma_concurrent.specs.inside.Places.{HasMore}
use Rattle.rma_assert.specs.Locks.{IsLockedBeside}
use Rattle.rma_assert.specs.inside.Gathered.{IsAtPlace, IsUpTo}
use Rattle.rma_assert.proofs.locks.add_beside.Given as goal

-- the lock epochs before are asked
abbrev pub invariant-loop-place : goal.invariant-loop-place
invariant-loop-place g l = (links : Links) → g.C.Clocks.are_of l.clocks (points_of (lens_of l.ranks)) links
    → HasMore (IsUpTo (IsAtPlace (IsLockedBeside links (calls_of l.ranks) l.own) l.locks) l.place) l.initial.found.items l.found.items
