use Rattle.std.proofs.Common.{◌≤◌, length, take, ap, subst, sym, ◌∙◌}
use Rattle.std.proofs.lemmas.List.Elements.{All-push}
use Rattle.std.specs.Prelude.{All}
use Rattle.rma_base.specs.Limits.{fed_limit}
use Rattle.rma_call.specs.Call.{RankCalls}
use Rattle.rma_message.specs.Messages.{AreNumbered, messages_of, with_rank}
use Rattle.rma_message.proofs.MatchLemmas.{taken}
use Rattle.rma_message.proofs.NumberLemmas.{messages_numbered}
use Rattle.rma_message.proofs.RunLemmas.{messages_more}
use Rattle.rma_message.proofs.messages.Messages.of_calls.Goals as goal

pub loop-own-preserved : goal.loop-own-preserved
loop-own-preserved c =
    let ranks = c.args.ranks.now in
    let i = c.loop-own.own-index in
    let own = c.own-item.result in
    let few = λ (r : RankCalls). length r.calls ≤ fed_limit in
    record {
      there =
          c.in_ok-add.ensures
          ∙ ap (λ m. with_rank m c.in_ok-taken.taken) c.loop-own.invariant.there
          ∙ ap (with_rank (messages_of (take i ranks))) c.in_ok-taken.ensures.messages
          ∙ messages_more ranks i own c.loop-own-test.true c.own-item.is;
      few = subst (All few) (sym (taken ranks i own c.loop-own-test.true c.own-item.is)) (All-push few _ own c.loop-own.invariant.few c.in_ok-taken.ensures.few);
    }

pub returns-clause-numbered : goal.returns-clause-numbered
returns-clause-numbered c = subst AreNumbered (sym c.loop-own.invariant.there) (messages_numbered _ c.loop-own.invariant.few)
