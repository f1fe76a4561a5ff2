use Rattle.rma_clock.proofs.DenseLemmas.{IsFilledTo}
use Rattle.rma_clock.proofs.dense.DenseClocks.build.Given as goal

abbrev pub invariant-loop-point : goal.invariant-loop-point
invariant-loop-point l = IsFilledTo l.lens l.links l.order l.point-index l.clocks.rows.items
