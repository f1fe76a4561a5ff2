use Rattle.std.proofs.Common.{◌≡◌, ◌≤◌, Some, length, sym, ap, subst, refl, ◌∙◌}
use Rattle.std.specs.Map.{keys_of}
use Rattle.std.proofs.lemmas.List.{take_all}
use Rattle.std.proofs.lemmas.Option.{same_Some, slice_get-get_or}
use Rattle.rma_base.specs.Limits.{fed_limit}
use Rattle.rma_call.specs.Call.{RankCalls}
use Rattle.rma_message.specs.RankMessages.{messages_by}
use Rattle.rma_message.specs.Messages.{messages_of}
use Rattle.rma_message.specs.inside.Matched.{AreMatched, ArePosted}
use Rattle.rma_message.proofs.MatchedLemmas.{no_faults}
use Rattle.rma_message.proofs.PostedLemmas.{if_some}
use Rattle.rma_message.proofs.matched.matched_edges.Goals as goal

pub loop-index-init : goal.loop-index-init
loop-index-init c = record { edges_are = c.new-edges.ensures; left = c.in_ok-queues.ensures.sends; sent = λ reason. refl }

pub posted_of-requires : goal.posted_of-requires
posted_of-requires c =
    subst (λ (r : RankCalls). length r.calls ≤ fed_limit) (sym c.index-ranks-index.is) (c.in_ok-queues.ensures.few c.loop-index.index c.index-ranks-index.result c.loop-index-test.true)

pub push_matched-requires-clause-posted : goal.push_matched-requires-clause-posted
push_matched-requires-clause-posted c = λ own at.
    let ranks = c.args.ranks.now in
    let index = c.loop-index.index in
    let rank = c.index-ranks-index.result in
    let same : rank ≡ own = same_Some rank own (sym (slice_get-get_or ranks index rank c.loop-index-test.true ∙ ap Some (sym c.index-ranks-index.is)) ∙ at) in
    let keys = keys_of c.loop-index.queues.entries in
    let (whats, posted) = if_some _ _ _ c.in-Some.is c.in_ok-receives.ensures in (
      whats,
      subst (λ (r : RankCalls). ArePosted r.rank keys whats (messages_by r).receives c.as_slice.result.now) same
          (subst (ArePosted rank.rank keys whats (messages_by rank).receives) (sym c.as_slice.ensures.value) posted),
    )

pub push_matched-requires-clause-few : goal.push_matched-requires-clause-few
push_matched-requires-clause-few c = c.in_ok-queues.ensures.few

pub loop-index-preserved : goal.loop-index-preserved
loop-index-preserved c = c.in_ok-push_matched.ensures c.if-not-branch.false

pub returns-then-are_empty : goal.returns-then-are_empty
returns-then-are_empty c =
    let ranks = c.args.ranks.now in
    let whole = take_all c.loop-index.index ranks c.loop-index-test.false in
    let matched = subst (λ l. AreMatched (messages_of ranks).sends (messages_of l).receives c.loop-index.edges c.loop-index.queues.entries) whole c.loop-index.invariant in
    (no_faults ranks c.loop-index.edges c.loop-index.queues.entries matched (c.are_empty.ensures c.if-are_empty.true), matched.edges_are)
