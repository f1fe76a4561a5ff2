use Rattle.std.proofs.Common.{◌+◌, ◌-◌, ◌/◌, ◌<◌, arith}
use Rattle.rma_cut.proofs.CountLemmas.{earlier_before}
use Rattle.rma_cut.proofs.search.count_before.Goals as goal

pub search-preserved-then-leq : goal.search-preserved-then-leq
search-preserved-then-leq g c =
    let middle = c.search.low + (c.search.high - c.search.low) / 2 in
    let in_rank : middle < c.args.n = omega arith in
    record {
      in_order = omega arith;
      within = c.search.invariant.within;
      before = λ points links are all there pos lt.
          let told = c.leq.ensures points links are (omega arith) there in
          earlier_before links c.args.rank pos middle (omega arith) c.args.p (told.0 c.if-leq.true);
      after = c.search.invariant.after;
    }

pub search-preserved : goal.search-preserved
search-preserved g c =
    let middle = c.search.low + (c.search.high - c.search.low) / 2 in
    let in_rank : middle < c.args.n = omega arith in
    record {
      in_order = omega arith;
      within = omega arith;
      before = c.search.invariant.before;
      after = λ points links are all there pos le lt order.
          let told = c.leq.ensures points links are (omega arith) there in
          let yes = told.1 (earlier_before links c.args.rank middle pos le c.args.p order) in
          let no = c.if-leq.false in
          cc;
    }
