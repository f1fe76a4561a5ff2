use Rattle.std.proofs.Common.{arith}
use Rattle.rma_cover.proofs.HeldLemmas.{own_ascend}
use Rattle.rma_cover.proofs.own_locks.OwnLocks.of.Goals as goal

pub returns : goal.returns
returns c = record {
  all_are = c.in_ok-own_locks.ensures;
  ascend = own_ascend c.args.windows.now c.args.rank c.args.epochs.now c.requires;
  within = omega arith;
  opened = λ i d lt. absurd (omega arith);
  unopened = λ i d le lt. omega arith;
  held_are = c.new.ensures.items;
}
