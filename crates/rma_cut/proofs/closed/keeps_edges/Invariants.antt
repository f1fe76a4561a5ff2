use Rattle.std.proofs.Common.{ℕ, ◌<◌, get_or}
use Rattle.rma_link.specs.declared.edge.Edge.{Edge}
use Rattle.rma_cut.specs.inside.Kept.{IsEdgeKept}
use Rattle.rma_cut.proofs.closed.keeps_edges.Given as goal

abbrev pub invariant-loop-edge : goal.invariant-loop-edge
invariant-loop-edge l = (k : ℕ) → k < l.edge-index → (d : Edge) → IsEdgeKept l.cut (get_or l.edges k d)
