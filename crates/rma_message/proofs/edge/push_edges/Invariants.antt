use Rattle.std.proofs.Common.{◌≡◌, ◌++◌, [], take}
use Rattle.rma_message.specs.Matching.{edge_of, walked}
use Rattle.rma_message.specs.inside.Queue.{AreLeft}
use Rattle.rma_message.proofs.edge.push_edges.Given as goal

-- the edges of the receives before, and what they leave of the sends
abbrev pub invariant-loop-end : goal.invariant-loop-end
invariant-loop-end l = record {
  edges : l.links ≡ record l.fn.links { edges = l.fn.links.edges ++ walked (edge_of l.sends) [] (take l.end-index l.receives) };
  left : AreLeft l.sends (take l.end-index l.receives) l.queues.entries;
}
