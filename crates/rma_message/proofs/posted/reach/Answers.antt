use Rattle.std.proofs.Common.{length, ap, ◌∙◌, arith}
use Rattle.std.proofs.lemmas.List.{length_push}
use Rattle.rma_message.specs.inside.Matched.{index_at}
use Rattle.rma_message.proofs.PostedLemmas.{index_push}
use Rattle.rma_message.proofs.posted.reach.Goals as goal

pub loop-next-preserved : goal.loop-next-preserved
loop-next-preserved c =
    let items = c.in_ok-push.ensures.items in
    let before = c.loop-next.indexes.items in
    record {
      len = (let longer = ap length items ∙ length_push before _ in let reached = c.loop-next.invariant.len in omega arith);
      same = λ other. ap (λ xs. index_at xs other) items ∙ index_push before other ∙ c.loop-next.invariant.same other;
    }
