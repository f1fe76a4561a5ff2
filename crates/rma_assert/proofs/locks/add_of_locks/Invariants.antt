use Rattle.rma_clock.specs.Reached.{points_of}
use Rattle.rma_link.specs.declared.links.Links.{Links}
use Rattle.rma_run.specs.Run.{calls_of, lens_of}
use Rattle.rma_concurrent.specs.inside.Places.{HasMore}
use Rattle.rma_assert.specs.inside.Gathered.{IsAtPlace, IsUpTo}
use Rattle.rma_assert.proofs.LockLemmas.{IsOfLock}
use Rattle.rma_assert.proofs.locks.add_of_locks.Given as goal

-- the lock epochs before are asked
abbrev pub invariant-loop-own : goal.invariant-loop-own
invariant-loop-own g l = (links : Links) → g.C.Clocks.are_of l.clocks (points_of (lens_of l.ranks)) links
    → HasMore (IsUpTo (IsAtPlace (IsOfLock links (calls_of l.ranks) l.locks) l.locks) l.own-index) l.initial.found.items l.found.items
