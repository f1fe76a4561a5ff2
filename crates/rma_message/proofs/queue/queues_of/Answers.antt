use Rattle.rma_message.proofs.MatchLemmas.{pushed}
use Rattle.rma_message.proofs.queue.queues_of.Goals as goal

pub loop-end-preserved : goal.loop-end-preserved
loop-end-preserved c =
    pushed c.loop-end.queues.entries c.push.new.queues.entries c.args.ends.now c.loop-end.end-index c.end-item.result c.loop-end-test.true c.end-item.is c.loop-end.invariant c.in_ok-push.ensures
