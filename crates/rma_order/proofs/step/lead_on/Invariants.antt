use Rattle.std.specs.List.{AllWithin}
use Rattle.rma_walk.specs.Step.{IsEdgeOn}
use Rattle.rma_order.proofs.step.lead_on.Given as goal

abbrev pub invariant-loop-edge : goal.invariant-loop-edge
invariant-loop-edge l = AllWithin IsEdgeOn l.edges 0 l.edge-index
