use Rattle.std.proofs.Common.{◌≡◌, ◌++◌, take}
use Rattle.rma_message.proofs.edge.push_all.Given as goal

-- the edges before are there
abbrev pub invariant-loop-edge : goal.invariant-loop-edge
invariant-loop-edge l = l.links ≡ record l.fn.links { edges = l.fn.links.edges ++ take l.edge-index l.edges }
