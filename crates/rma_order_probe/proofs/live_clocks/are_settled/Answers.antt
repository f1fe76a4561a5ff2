use Rattle.std.proofs.Common.{subst}
use Rattle.std.proofs.lemmas.List.{get_or_default}
use Rattle.std.proofs.lemmas.List.Elements.{AllWithin-more}
use Rattle.rma_base.specs.declared.point.Point.{Point}
use Rattle.rma_order_probe.specs.Settled.{IsSettled}
use Rattle.rma_order_probe.proofs.live_clocks.are_settled.Goals as goal

pub loop-point-preserved : goal.loop-point-preserved
loop-point-preserved c =
    let points = c.args.points.now in
    let P : Point → Type 0 = IsSettled c.args.live.now in
    AllWithin-more P points 0 c.loop-point.point-index c.loop-point.invariant
    (λ d. subst P (get_or_default points c.loop-point.point-index _ d c.loop-point-test.true) (c.is_settled.ensures c.if-not-is_settled.false))
