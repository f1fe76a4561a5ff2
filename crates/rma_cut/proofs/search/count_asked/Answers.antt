use Rattle.std.proofs.Common.{inl, inr}
use Rattle.rma_cut.proofs.CountLemmas.{count_both}
use Rattle.rma_cut.proofs.search.count_asked.Goals as goal

pub returns : goal.returns
returns g c = λ points links are all there.
    let asked = c.args.asked.now in
    rw c.max.ensures (count_both links asked c.args.rank.0 c.args.n c.count_option-one.result c.count_option-other.result
    (c.count_option-one.ensures points links are all (λ q is. there q (inl is))) (c.count_option-other.ensures points links are all (λ q is. there q (inr is))))
