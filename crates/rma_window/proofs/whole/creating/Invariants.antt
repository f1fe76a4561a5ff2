use Rattle.std.proofs.Common.{◌≡◌, length}
use Rattle.rma_window.specs.inside.Creating.{AreCreating}
use Rattle.rma_window.proofs.whole.creating.Given as goal

-- what calls do that have the numbers before is told
abbrev pub invariant-loop-number : goal.invariant-loop-number
invariant-loop-number l = record {
  len : length l.flags.items ≡ l.number;
  each : AreCreating l.calls.whats l.flags.items;
}
