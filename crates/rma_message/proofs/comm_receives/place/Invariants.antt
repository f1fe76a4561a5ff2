use Rattle.std.proofs.Common.{◌≡◌, length}
use Rattle.rma_message.specs.inside.Live.{AreNumbered}
use Rattle.rma_message.proofs.comm_receives.place.Given as goal

-- the receives before are numbered
abbrev pub invariant-loop-index : goal.invariant-loop-index
invariant-loop-index l = record {
  at : length l.numbers ≡ l.index;
  are : AreNumbered l.keys l.fn.numbers l.fn.counts.entries → AreNumbered l.keys l.numbers l.counts.entries;
}
