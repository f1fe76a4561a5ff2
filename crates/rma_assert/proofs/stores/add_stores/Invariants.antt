use Rattle.rma_call.specs.Call.{RankCalls}
use Rattle.rma_concurrent.specs.inside.Places.{HasMore}
use Rattle.rma_assert.specs.inside.Gathered.{IsAtPlace, IsUpTo}
use Rattle.rma_assert.specs.inside.Stored.{IsStoredOf}
use Rattle.rma_assert.proofs.stores.add_stores.Given as goal

-- the ranks before are asked
abbrev pub invariant-loop-index : goal.invariant-loop-index
invariant-loop-index l = HasMore (IsUpTo (IsAtPlace (λ (own : RankCalls). IsStoredOf l.windows l.lists l.ranks own) l.ranks) l.index) l.initial.found.items l.found.items
