use Rattle.std.proofs.Common.{subst, sym}
use Rattle.rma_order.specs.RunLinks.{links_of}
use Rattle.rma_order.proofs.SameLinks.{link_back, order_same}
use Rattle.rma_run.specs.Run.{lens_of}
use Rattle.rma_walk.specs.Outcome.{IsOrder}
use Rattle.rma_order_probe.proofs.clocks.compare_clocks.Goals as goal

-- the points stand in an order by the links of the run, and so by those that link the same
pub build-requires-clause-order : goal.build-requires-clause-order
build-requires-clause-order c =
    let ranks = c.args.run.linked.calls.now in
    let links = c.args.run.linked.links.now in
    let points = c.args.run.order.now.points in
    let back = link_back links (links_of ranks) c.requires.linked.links_are in
    let order = order_same (links_of ranks) links back (lens_of ranks) points c.requires.order_is.points in
    subst (λ list. IsOrder c.args.run.lens.now links list) (sym c.as_slice-points.ensures) (subst (λ lens. IsOrder lens links points) (sym c.requires.lens_are) order)
