use Rattle.std.proofs.Common.{Some, None, refl}
use Rattle.rma_message.specs.Receive.{posted}
use Rattle.rma_message.proofs.ReceiveLemmas.{pending_other}
use Rattle.rma_message.proofs.rank_messages.RankMessages.receive.Goals as goal

pub invariant_of-self-2 : goal.invariant_of-self-2
invariant_of-self-2 c =
    let own = c.self.inside in
    rw c.in_ok-push.ensures.items (pending_other own.receives.items (posted c.in_ok-comm.comm c.args.line None (Some c.args.completion)) own.pending.entries c.self.invariant refl)
