use Rattle.rma_concurrent.specs.inside.Places.{HasMore}
use Rattle.rma_accesses.specs.inside.Kept.{rank_of}
use Rattle.rma_assert.specs.inside.Gathered.{IsUpTo}
use Rattle.rma_assert.specs.inside.Updated.{IsOfTargetAt}
use Rattle.rma_assert.proofs.updates.add_of_rank.Given as goal

-- the calls before are asked
abbrev pub invariant-loop-index : goal.invariant-loop-index
invariant-loop-index l = HasMore (IsUpTo (IsOfTargetAt l.ranks (rank_of l.own)) l.index) l.initial.found.items l.found.items
