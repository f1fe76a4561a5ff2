use Rattle.std.proofs.Common.{◌∙◌, arith}
use Rattle.std.proofs.lemmas.List.{length-set}
use Rattle.rma_clock.specs.Reached.{edges_to, with_edges, with_point}
use Rattle.rma_order_probe.proofs.SettledLemmas.{can_settle}
use Rattle.rma_order_probe.proofs.live_clocks.settle.Goals as goal

pub settle-requires : goal.settle-requires
settle-requires c =
    let (points, links, are, size) = c.requires in
    let next = c.is_next.ensures c.if-not-is_next.false points links are size in
    let known = c.are_settled.ensures c.if-not-are_settled.false in
    let taken = c.taken.ensures points links are in
    (points, links, are, can_settle c.args.live.now points links c.args.point c.args.sources.now are next known (omega (arith, taken, c.if-taken.false)))

pub returns : goal.returns
returns c =
    let (points, links, are, size) = c.requires in
    let next = c.is_next.ensures c.if-not-is_next.false points links are size in
    let known = c.are_settled.ensures c.if-not-are_settled.false in
    let taken = c.taken.ensures points links are in
    let can = can_settle c.args.live.now points links c.args.point c.args.sources.now are next known (omega (arith, taken, c.if-taken.false)) in
    (with_point points c.args.point, with_edges links (edges_to c.args.point c.args.sources.now), c.in_ok-settle.ensures.ok points links are can, length-set points _ _ ∙ size)
