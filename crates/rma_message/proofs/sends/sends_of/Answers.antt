use Rattle.std.proofs.Common.{◌≤◌, [], length, take, subst, sym}
use Rattle.std.proofs.lemmas.List.Elements.{All-push}
use Rattle.std.specs.Prelude.{All}
use Rattle.rma_base.specs.Limits.{fed_limit}
use Rattle.rma_call.specs.Call.{RankCalls}
use Rattle.rma_message.specs.Messages.{messages_of}
use Rattle.rma_message.specs.inside.Queue.{AreLeft}
use Rattle.rma_message.proofs.MatchLemmas.{taken}
use Rattle.rma_message.proofs.SendLemmas.{sends_more}
use Rattle.rma_message.proofs.sends.sends_of.Goals as goal

pub loop-own-preserved : goal.loop-own-preserved
loop-own-preserved c =
    let ranks = c.args.ranks.now in
    let i = c.loop-own.own-index in
    let own = c.own-item.result in
    let few = λ (r : RankCalls). length r.calls ≤ fed_limit in
    record {
      sends =
          subst (λ sends. AreLeft sends [] c.take_rank.new.queues.entries) (sends_more ranks i own c.loop-own-test.true c.own-item.is)
          (c.in_ok-take_rank.ensures.sends (messages_of (take i ranks)).sends c.loop-own.invariant.sends);
      few = subst (All few) (sym (taken ranks i own c.loop-own-test.true c.own-item.is)) (All-push few _ own c.loop-own.invariant.few c.in_ok-take_rank.ensures.few);
    }
