use Rattle.rma_call.specs.Call.{RankCalls}
use Rattle.rma_clock.specs.Reached.{points_of}
use Rattle.rma_link.specs.declared.links.Links.{Links}
use Rattle.rma_run.specs.Run.{calls_of, lens_of}
use Rattle.rma_concurrent.specs.inside.Places.{HasMore}
use Rattle.rma_assert.specs.inside.Gathered.{IsAtPlace, IsUpTo}
use Rattle.rma_assert.specs.inside.Started.{IsOfRank}
use Rattle.rma_assert.proofs.starts.add_starts.Given as goal

-- the ranks before are asked
abbrev pub invariant-loop-own : goal.invariant-loop-own
invariant-loop-own g l = (links : Links) → g.C.Clocks.are_of l.clocks (points_of (lens_of l.ranks)) links
    → HasMore (IsUpTo (IsAtPlace (λ (own : RankCalls). IsOfRank links (calls_of l.ranks) own.rank) l.ranks) l.own-index) l.initial.found.items l.found.items
