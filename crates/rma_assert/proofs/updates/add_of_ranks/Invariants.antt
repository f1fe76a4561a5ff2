use Rattle.rma_concurrent.specs.inside.Places.{HasMore}
use Rattle.rma_accesses.specs.declared.rank.RankAccesses.{RankAccesses}
use Rattle.rma_accesses.specs.inside.Kept.{rank_of}
use Rattle.rma_assert.specs.inside.Gathered.{IsAtPlace, IsUpTo}
use Rattle.rma_assert.specs.inside.Updated.{IsOfUpdates}
use Rattle.rma_assert.proofs.updates.add_of_ranks.Given as goal

-- the ranks before are asked
abbrev pub invariant-loop-own : goal.invariant-loop-own
invariant-loop-own l = HasMore (IsUpTo (IsAtPlace (λ (own : RankAccesses). IsOfUpdates l.ranks (rank_of own)) l.owns) l.own-index) l.initial.found.items l.found.items
