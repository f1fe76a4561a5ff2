use Rattle.std.proofs.Common.{take}
use Rattle.rma_walk.specs.Source.{IsMemberSource}
use Rattle.rma_walk.specs.inside.Pending.{AreAdded}
use Rattle.rma_walk.proofs.pending.add_members.Given as goal

abbrev pub invariant-loop-member : goal.invariant-loop-member
invariant-loop-member l = AreAdded (IsMemberSource l.index (take l.member-index l.members)) l.initial.inboxes.items l.inboxes.items
