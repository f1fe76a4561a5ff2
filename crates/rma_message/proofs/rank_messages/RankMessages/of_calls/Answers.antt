use Rattle.std.proofs.Common.{ap, sym, ◌∙◌}
use Rattle.rma_message.specs.RankMessages.{no_messages, with_calls}
use Rattle.rma_message.proofs.NoMessageLemmas.{calls_change_nothing}
use Rattle.rma_message.proofs.RunLemmas.{all_taken}
use Rattle.rma_message.proofs.rank_messages.RankMessages.of_calls.Goals as goal
use Rattle.rma_message.proofs.rank_messages.RankMessages.of_calls.Goals.{then-has+in_ok-take_all, else-has}

pub returns-clause-messages : goal.returns-clause-messages
returns-clause-messages c =
    let calls = c.calls-calls.result.now.calls in
    let all = all_taken c.args.own.now c.rank.result calls c.rank.ensures c.calls-calls.ensures in
    elim c.if-has.branch [
      | then-has+in_ok-take_all w ↦ w.messages-is ∙ w.in_ok-take_all.ensures ∙ ap (λ m. with_calls m 0 calls) c.new-messages.ensures ∙ all
      | else-has w ↦ w.messages-is ∙ c.new-messages.ensures ∙ sym (calls_change_nothing (no_messages c.rank.result) 0 calls (c.has.ensures w.if-has.false)) ∙ all
    ]
