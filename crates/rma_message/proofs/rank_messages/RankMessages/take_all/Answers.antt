use Rattle.std.proofs.Common.{ap, ◌∙◌}
use Rattle.rma_call.specs.Call.{call_of}
use Rattle.rma_message.specs.RankMessages.{with_call}
use Rattle.rma_message.proofs.RunLemmas.{with_next_call}
use Rattle.rma_message.proofs.rank_messages.RankMessages.take_all.Goals as goal

pub loop-i-preserved : goal.loop-i-preserved
loop-i-preserved c =
    let call = call_of c.get.result in
    c.in_ok-take.ensures.ok
    ∙ ap (λ m. with_call m c.loop-i.i call) c.loop-i.invariant
    ∙ with_next_call c.args.self.now c.args.calls.now.calls c.loop-i.i call c.get.ensures
