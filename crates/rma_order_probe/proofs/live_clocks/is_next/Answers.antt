use Rattle.std.proofs.Common.{subst, arith}
use Rattle.std.proofs.lemmas.Bool.Decides.{nat_tests}
use Rattle.rma_clock.specs.Reached.{IsLastPoint}
use Rattle.rma_order_probe.proofs.SettledLemmas.{next_of_last, next_of_none}
use Rattle.rma_order_probe.proofs.live_clocks.is_next.Goals as goal

pub returns-then-point-last : goal.returns-then-point-last
returns-then-point-last c = λ step points links are size.
    next_of_last points c.args.point c.in-Some.last (grind (arith, nat_tests)) (subst (IsLastPoint points c.args.point.rank) c.in-Some.is (c.last.ensures points links are))
    (grind (arith, nat_tests)) (grind (arith, nat_tests))

pub returns-in-None : goal.returns-in-None
returns-in-None c = λ first points links are size.
    next_of_none points c.args.point (grind (arith, nat_tests)) (subst (IsLastPoint points c.args.point.rank) c.in-None.is (c.last.ensures points links are)) (grind (arith, nat_tests))
