use Rattle.std.proofs.Common.{take}
use Rattle.rma_walk.specs.Source.{IsEdgeSource}
use Rattle.rma_walk.specs.inside.Pending.{AreAdded}
use Rattle.rma_walk.proofs.pending.add_edges.Given as goal

abbrev pub invariant-loop-edge : goal.invariant-loop-edge
invariant-loop-edge l = AreAdded (IsEdgeSource (take l.edge-index l.edges)) l.initial.inboxes.items l.inboxes.items
