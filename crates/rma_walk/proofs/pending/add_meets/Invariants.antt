use Rattle.std.proofs.Common.{take}
use Rattle.rma_walk.specs.Source.{IsMeetSource}
use Rattle.rma_walk.specs.inside.Pending.{AreAdded}
use Rattle.rma_walk.proofs.pending.add_meets.Given as goal

abbrev pub invariant-loop-index : goal.invariant-loop-index
invariant-loop-index l = AreAdded (IsMeetSource (take l.index l.run.links.now.meets)) l.initial.inboxes.items l.inboxes.items
