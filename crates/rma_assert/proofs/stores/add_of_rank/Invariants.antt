use Rattle.rma_concurrent.specs.inside.Places.{HasMore}
use Rattle.rma_assert.specs.inside.Gathered.{IsUpTo}
use Rattle.rma_assert.specs.inside.Stored.{IsStoredIn}
use Rattle.rma_assert.proofs.stores.add_of_rank.Given as goal

-- the windows before are asked
abbrev pub invariant-loop-number : goal.invariant-loop-number
invariant-loop-number l = HasMore (IsUpTo (IsStoredIn l.windows l.lists l.ranks l.own) l.number) l.initial.found.items l.found.items
