use Rattle.std.proofs.Common.{◌≡◌, ◌≤◌, ◌++◌, length}
use Rattle.rma_walk.specs.inside.Inbox.{chain, reach}
use Rattle.rma_walk.proofs.waits.Waits.sources.Given as goal

abbrev pub invariant-loop-source : goal.invariant-loop-source
invariant-loop-source l = record {
  within : reach l.waits ≤ length l.arrivals;
  rest : l.sources ++ chain l.arrivals l.waits ≡ chain l.arrivals l.fn.self;
}

abbrev pub decreases-loop-source : goal.decreases-loop-source
decreases-loop-source l = length (chain l.arrivals l.waits)
