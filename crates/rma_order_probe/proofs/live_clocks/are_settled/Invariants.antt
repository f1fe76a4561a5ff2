use Rattle.std.specs.List.{AllWithin}
use Rattle.rma_order_probe.specs.Settled.{IsSettled}
use Rattle.rma_order_probe.proofs.live_clocks.are_settled.Given as goal

-- those before are settled
abbrev pub invariant-loop-point : goal.invariant-loop-point
invariant-loop-point l = AllWithin (IsSettled l.live) l.points 0 l.point-index
