use Rattle.rma_clock.proofs.SettleLemmas.{IsBuiltTo}
use Rattle.rma_clock.proofs.shared.SharedClocks.build.Given as goal

abbrev pub invariant-loop-point : goal.invariant-loop-point
invariant-loop-point l = IsBuiltTo l.lens l.links l.point-items l.point-index l.builder
