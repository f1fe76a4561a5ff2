use Rattle.std.proofs.Common.{◌≡◌, ◌++◌, [], take}
use Rattle.rma_message.specs.Matching.{fault_of, walked}
use Rattle.rma_message.specs.inside.Queue.{AreLeft}
use Rattle.rma_message.proofs.fault.push_unmatched.Given as goal

-- the faults of the ends before, and what they leave of the others
abbrev pub invariant-loop-end : goal.invariant-loop-end
invariant-loop-end l = record {
  faults : l.faults ≡ l.fn.faults ++ walked (fault_of l.reason l.others) [] (take l.end-index l.own);
  left : AreLeft l.others (take l.end-index l.own) l.queues.entries;
}
