use Rattle.std.proofs.Common.{◌≡◌, ◌++◌, ◌∷◌, [], ap, ◌∙◌, arith}
use Rattle.std.specs.List.{range_with_len}
use Rattle.rma_match.proofs.GroupLemmas.{counting_more}
use Rattle.rma_match.proofs.groups.everyone.Goals as goal

pub loop-rank-preserved : goal.loop-rank-preserved
loop-rank-preserved c =
    let rank = c.loop-rank.rank in
    c.in_ok-push.ensures.ok
    ∙ ap (λ l. l ++ rank ∷ []) c.loop-rank.invariant
    ∙ counting_more rank

pub returns : goal.returns
returns c =
    let end : c.loop-rank.rank ≡ c.args.ranks = omega arith in
    c.loop-rank.invariant ∙ ap (range_with_len 0) end
