use Rattle.rma_accesses.specs.inside.Kept.{rank_of}
use Rattle.rma_concurrent.specs.inside.Places.{HasMore}
use Rattle.rma_assert.specs.inside.Gathered.{IsUpTo}
use Rattle.rma_assert.specs.inside.Stored.{IsStoredAt}
use Rattle.rma_assert.proofs.stores.add_of_calls.Given as goal

-- the calls before are asked
abbrev pub invariant-loop-index : goal.invariant-loop-index
invariant-loop-index l = HasMore (IsUpTo (IsStoredAt l.windows l.ranks (rank_of l.accesses) l.given) l.index) l.initial.found.items l.found.items
