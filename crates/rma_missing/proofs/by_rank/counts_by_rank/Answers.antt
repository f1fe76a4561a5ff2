use Rattle.std.proofs.Common.{List, ◌+◌, ◌++◌, [], ◌∷◌, take, sym, subst}
use Rattle.rma_call.specs.Call.{Call, RankCalls}
use Rattle.rma_missing.specs.inside.NameCount.{AreCounts}
use Rattle.rma_missing.specs.inside.ByRank.{Numbers, AreCountsByRank}
use Rattle.rma_agreement.proofs.WalkLemmas.{taken}
use Rattle.rma_missing.proofs.ByRankLemmas.{AreCountsByRank_push}
use Rattle.rma_missing.proofs.by_rank.counts_by_rank.Goals as goal

pub loop-rank-preserved : goal.loop-rank-preserved
loop-rank-preserved c =
    let ranks = c.args.ranks.now in
    let i = c.loop-rank.rank-index in
    let rank = c.rank-item.result in
    let counts = c.in_ok-counts.counts in
    let P : List Call → Type 0 = λ calls. AreCounts c.args.kind calls counts.entries in
    let Q : List Numbers → Type 0 = λ ts. AreCountsByRank c.args.kind (take (i + 1) ranks) ts in
    let S : List RankCalls → Type 0 = λ rs. AreCountsByRank c.args.kind rs (c.loop-rank.counts_by_rank ++ counts ∷ []) in
    subst Q (sym c.in_ok-push.ensures.ok)
    (subst S (sym (taken ranks i rank c.loop-rank-test.true c.rank-item.is))
    (AreCountsByRank_push c.args.kind (take i ranks) c.loop-rank.counts_by_rank rank counts c.loop-rank.invariant (subst P c.calls.ensures c.in_ok-counts.ensures)))
