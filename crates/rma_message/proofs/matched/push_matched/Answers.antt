use Rattle.std.proofs.Common.{◌≡◌, ◌+◌, ◌++◌, Some, get_or, take, refl, sym, ap, subst, append-nil, ◌∙◌, arith}
use Rattle.std.specs.List.{filter_map}
use Rattle.std.specs.Map.{keys_of}
use Rattle.std.proofs.lemmas.List.{take_all}
use Rattle.std.proofs.lemmas.Option.{same_Some, slice_get-get_or}
use Rattle.rma_base.specs.declared.rank.Rank.{Rank}
use Rattle.rma_call.specs.Call.{RankCalls}
use Rattle.rma_link.specs.Point.{entry, return_of}
use Rattle.rma_message.specs.declared.posted.Posted.TheVariants.{Open}
use Rattle.rma_message.specs.Receive.{end_of}
use Rattle.rma_message.specs.RankMessages.{messages_by}
use Rattle.rma_message.specs.Messages.{messages_of}
use Rattle.rma_message.specs.inside.Matched.{AreMatched}
use Rattle.rma_message.proofs.MatchedLemmas.{call_below, done_matched, done_send_below, not_done, open_skipped, receives_joined}
use Rattle.rma_message.proofs.NumberLemmas.{messages_numbered}
use Rattle.rma_message.proofs.matched.push_matched.Goals as goal

pub loop-own-init : goal.loop-own-init
loop-own-init c = record {
  keys = refl;
  matched = λ own at. subst (λ es. AreMatched (messages_of c.args.ranks.now).sends es c.args.edges.now c.args.queues.now.entries) (sym (append-nil _)) c.requires.matched;
}

pub message_edge-requires-clause-send : goal.message_edge-requires-clause-send
message_edge-requires-clause-send c =
    let ranks = c.args.ranks.now in
    let ps = c.args.receives.now in
    let index = c.args.index in
    let own = c.index-ranks-index.result in
    let at = slice_get-get_or ranks index own c.requires.index ∙ ap Some (sym c.index-ranks-index.is) in
    let (whats, posted) = c.requires.posted own at in
    let keys = keys_of c.args.queues.now.entries in
    let sends = (messages_of ranks).sends in
    let before = (messages_of (take index ranks)).receives in
    let rs = (messages_by own).receives in
    let j = c.loop-own.own-index in
    let matched = c.loop-own.invariant.matched own at in
    let at_done = slice_get-get_or ps j (Open 0) c.loop-own-test.true ∙ ap Some c.in-Done.is in
    done_send_below sends before own.rank keys whats rs ps posted j c.in-Done.place c.in-Done.call c.in-Done.from at_done
    c.loop-own.edges c.loop-own.queues.entries c.in-Some.send c.loop-own.invariant.keys (λ k there. sym c.in-Some.is ∙ c.pop_at.ensures.first k there) matched (messages_numbered ranks c.requires.few).sends

pub message_edge-requires-clause-receive : goal.message_edge-requires-clause-receive
message_edge-requires-clause-receive c =
    let ranks = c.args.ranks.now in
    let ps = c.args.receives.now in
    let index = c.args.index in
    let own = c.index-ranks-index.result in
    let at = slice_get-get_or ranks index own c.requires.index ∙ ap Some (sym c.index-ranks-index.is) in
    let (whats, posted) = c.requires.posted own at in
    let keys = keys_of c.args.queues.now.entries in
    let sends = (messages_of ranks).sends in
    let before = (messages_of (take index ranks)).receives in
    let rs = (messages_by own).receives in
    let j = c.loop-own.own-index in
    let at_done = slice_get-get_or ps j (Open 0) c.loop-own-test.true ∙ ap Some c.in-Done.is in
    call_below sends before own.rank keys whats rs ps posted j c.in-Done.place c.in-Done.call c.in-Done.from at_done

pub loop-own-preserved : goal.loop-own-preserved
loop-own-preserved c = record {
  keys = c.pop_at.ensures.keys ∙ c.loop-own.invariant.keys;
  matched = λ own at.
      let ranks = c.args.ranks.now in
      let ps = c.args.receives.now in
      let index = c.args.index in
      let same : c.index-ranks-index.result ≡ own = same_Some c.index-ranks-index.result own (sym (slice_get-get_or ranks index c.index-ranks-index.result c.requires.index ∙ ap Some (sym c.index-ranks-index.is)) ∙ at) in
      let (whats, posted) = c.requires.posted own at in
      let keys = keys_of c.args.queues.now.entries in
      let sends = (messages_of ranks).sends in
      let before = (messages_of (take index ranks)).receives in
      let rs = (messages_by own).receives in
      let j = c.loop-own.own-index in
      let matched = c.loop-own.invariant.matched own at in
      let at_done = slice_get-get_or ps j (Open 0) c.loop-own-test.true ∙ ap Some c.in-Done.is in
      let edge = c.message_edge.ensures ∙ ap (λ (rank : Rank). record { from = entry c.in-Done.from c.in-Some.send; to = return_of rank c.in-Done.call }) (c.rank-rank.ensures ∙ ap (λ (r : RankCalls). r.rank) same) in
      subst (λ es. AreMatched sends (before ++ filter_map (end_of own.rank) (take (j + 1) rs)) es c.pop_at.new.queues.entries) (sym c.in_ok-push.ensures.ok)
      (done_matched sends before own.rank keys whats rs ps posted j c.in-Done.place c.in-Done.call c.in-Done.from at_done
      c.loop-own.edges c.loop-own.queues.entries c.in-Some.send c.loop-own.invariant.keys (λ k there. sym c.in-Some.is ∙ c.pop_at.ensures.first k there) matched
      c.pop_at.new.queues.entries c.message_edge.result c.pop_at.ensures.rest edge);
}

pub loop-own-preserved-in_default : goal.loop-own-preserved-in_default
loop-own-preserved-in_default c = record {
  keys = c.loop-own.invariant.keys;
  matched = λ own at.
      let ranks = c.args.ranks.now in
      let ps = c.args.receives.now in
      let index = c.args.index in
      let (whats, posted) = c.requires.posted own at in
      let keys = keys_of c.args.queues.now.entries in
      let sends = (messages_of ranks).sends in
      let before = (messages_of (take index ranks)).receives in
      let rs = (messages_by own).receives in
      let j = c.loop-own.own-index in
      let matched = c.loop-own.invariant.matched own at in
      let (what, is) = not_done (get_or ps j (Open 0)) c.in_default.not-Done in
      open_skipped sends before own.rank keys whats rs ps posted j what c.loop-own.edges c.loop-own.queues.entries (slice_get-get_or ps j (Open 0) c.loop-own-test.true ∙ ap Some is) matched;
}

pub returns : goal.returns
returns c = λ all.
    let ranks = c.args.ranks.now in
    let ps = c.args.receives.now in
    let index = c.args.index in
    let own = c.index-ranks-index.result in
    let at = slice_get-get_or ranks index own c.requires.index ∙ ap Some (sym c.index-ranks-index.is) in
    let (whats, posted) = c.requires.posted own at in
    let keys = keys_of c.args.queues.now.entries in
    let sends = (messages_of ranks).sends in
    let before = (messages_of (take index ranks)).receives in
    let rs = (messages_by own).receives in
    let j = c.loop-own.own-index in
    let matched = c.loop-own.invariant.matched own at in
    let long = posted.len in
    let whole = take_all j rs (omega (arith, c.loop-own-test.false)) in
    subst (λ es. AreMatched sends es c.loop-own.edges c.loop-own.queues.entries) (ap (λ l. before ++ filter_map (end_of own.rank) l) whole ∙ receives_joined ranks index own at) matched
