use Rattle.std.proofs.Common.{◌≡◌, true, length, take, nat_le, arith, subst, sym, ap, ◌∙◌}
use Rattle.std.proofs.lemmas.List.{take_all}
use Rattle.std.proofs.lemmas.Bool.{eqb-true}
use Rattle.std.specs.List.{list_all}
use Rattle.rma_difference.specs.inside.CallCount.{AreWithin}
use Rattle.rma_difference.proofs.CallCountLemmas.{AreWithin_at}
use Rattle.rma_difference.proofs.call_count.CallCounts.is_balanced.Goals as goal

pub loop-rank_count-preserved : goal.loop-rank_count-preserved
loop-rank_count-preserved c = record {
  within = c.past-balanced.ensures.within;
  balanced = λ f index is.
      let i = c.loop-rank_count.rank_count-index in
      let counts_by_rank = c.as_slice-rank_count-items.result.now in
      c.past-balanced.ensures.balanced f
      (AreWithin_at f counts_by_rank i (record { rank = 0; number = 0 }) (subst (AreWithin f) (sym c.as_slice-rank_count-items.ensures) is.before_are) c.loop-rank_count-test.true)
      (c.loop-rank_count.invariant.balanced f index is);
}

pub returns : goal.returns
returns c = λ all f index is.
    let ms = c.args.members.now in
    let le = is.last_is in
    let so : list_all (λ m. nat_le c.args.self.now.largest (f m)) (take c.past.result ms) ≡ true =
    c.past.ensures.balanced f (omega arith) (c.loop-rank_count.invariant.balanced f index is) in
    let whole : take c.past.result ms ≡ ms = take_all c.past.result ms (let e = eqb-true c.past.result (length ms) all in omega arith) in
    ap (list_all (λ m. nat_le c.args.self.now.largest (f m))) (sym whole) ∙ so
