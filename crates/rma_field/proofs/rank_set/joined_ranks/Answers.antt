use Rattle.std.proofs.Common.{ap, sym, ◌∙◌, ◌++◌, ◌∷◌, get_or}
use Rattle.std.specs.Prelude.{decimal}
use Rattle.rma_field.proofs.JoinLemmas.{join_more}
use Rattle.rma_field.proofs.rank_set.joined_ranks.Goals as goal

pub loop-rank-preserved : goal.loop-rank-preserved
loop-rank-preserved c =
    c.in_ok-write.ensures.bytes
    ∙ ap (λ front. front ++ 44 ∷ decimal (get_or c.args.more.now c.loop-rank.rank-index 0)) c.loop-rank.invariant
    ∙ sym (join_more 44 decimal c.args.first c.args.more.now c.loop-rank.rank-index c.loop-rank-test.true)
