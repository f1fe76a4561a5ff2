use Rattle.rma_order_probe.proofs.live_clocks.is_alike.Goals as goal

pub leq-requires : goal.leq-requires
leq-requires c =
    let (reached, links, are) = c.requires.live in
    let first = c.is_settled.ensures c.if-not-is_settled.false in
    let second = c.is_settled-else-not-is_settled.ensures c.if-not-is_settled-2.false in
    (reached, links, are, first.among reached links are, second.among reached links are)
