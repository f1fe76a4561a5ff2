use Rattle.std.proofs.Common.{refl, sym, ap, ◌∙◌}
use Rattle.rma_base.specs.declared.rank.Rank.{Rank}
use Rattle.rma_run.proofs.CheckLemmas.{AreFirst_more, IsRun_all}
use Rattle.rma_run.proofs.run.is_run.Goals as goal

pub loop-index-preserved : goal.loop-index-preserved
loop-index-preserved c =
    let rank = sym (ap (λ (r : Rank). r.0) c.rank.ensures) ∙ c.if-rank-index.false in
    AreFirst_more c.args.ranks.now c.loop-index.index c.index-ranks-index.result c.loop-index-test.true c.index-ranks-index.is (rank, rw (c.calls.ensures) at (rw c.len.ensures at c.if-len-gt-FED.false))
    c.loop-index.invariant

pub returns : goal.returns
returns c = ((λ _. IsRun_all c.args.ranks.now c.loop-index.index c.loop-index-test.false c.loop-index.invariant), (λ _. refl))
