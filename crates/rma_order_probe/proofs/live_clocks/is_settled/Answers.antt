use Rattle.std.proofs.Common.{subst, arith}
use Rattle.std.proofs.lemmas.Bool.Decides.{nat_tests}
use Rattle.rma_clock.specs.Reached.{IsLastPoint}
use Rattle.rma_order_probe.proofs.SettledLemmas.{reached_to_last}
use Rattle.rma_order_probe.proofs.live_clocks.is_settled.Goals as goal

pub returns-in-Some : goal.returns-in-Some
returns-in-Some c = λ le. record {
  among = λ points links are.
      reached_to_last points c.args.point c.in-Some.last (subst (IsLastPoint points c.args.point.rank) c.in-Some.is (c.last.ensures points links are)) (grind (arith, nat_tests));
}
