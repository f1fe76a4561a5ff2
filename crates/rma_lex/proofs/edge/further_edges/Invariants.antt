use Rattle.std.proofs.Common.{◌≡◌, ◌-◌, length}
use Rattle.rma_lex.specs.inside.Reached.{Reaches}
use Rattle.rma_lex.proofs.edge.further_edges.Given as goal

abbrev pub invariant-loop-edges : goal.invariant-loop-edges
invariant-loop-edges l = record {
  reaches : Reaches l.edges;
  line : l.edges.line.now ≡ l.line;
  place : l.edges.place ≡ l.place;
}

abbrev pub decreases-loop-edges : goal.decreases-loop-edges
decreases-loop-edges l = length l.edges.line.now - l.edges.base
