use Rattle.std.proofs.Common.{◌≡◌, ◌≤◌, ℕ, length}
use Rattle.rma_completion.specs.inside.Kept.{wait_at}
use Rattle.rma_completion.proofs.completions.reach.Given as goal

-- the column is at least so long, and says the same
abbrev pub invariant-loop : goal.invariant-loop
invariant-loop l = record {
  long : l.counter ≤ length l.waits.items;
  same : (other : ℕ) → wait_at l.waits.items other ≡ wait_at l.initial.waits.items other;
}
