use Rattle.std.proofs.Common.{◌≡◌, ◌≤◌, ℕ, length}
use Rattle.rma_message.specs.inside.Matched.{index_at}
use Rattle.rma_message.proofs.posted.reach.Given as goal

-- there are as many places, and the indexes are as they were
abbrev pub invariant-loop-next : goal.invariant-loop-next
invariant-loop-next l = record {
  len : l._next ≤ length l.indexes.items;
  same : (other : ℕ) → index_at l.indexes.items other ≡ index_at l.initial.indexes.items other;
}
