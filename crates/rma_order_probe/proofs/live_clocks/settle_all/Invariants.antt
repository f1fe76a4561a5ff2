use Rattle.rma_order_probe.specs.Settled.{AreSettled}
use Rattle.rma_order_probe.proofs.live_clocks.settle_all.Given as goal

abbrev pub invariant-loop-word : goal.invariant-loop-word
invariant-loop-word l = (goal.iterator-loop-word).can_next l.word-iterator × (goal.iterator-loop-word).is_finite l.word-iterator × AreSettled l.ranks l.live
