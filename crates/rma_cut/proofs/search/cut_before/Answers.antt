use Rattle.std.proofs.Common.{◌*◌, slice_index, arith}
use Rattle.rma_clock.specs.Reached.{points_of}
use Rattle.rma_clock.proofs.ReachedLemmas.{points_at}
use Rattle.rma_cut.specs.inside.Asked.{IsBeforeAsked, IsCount}
use Rattle.rma_cut.proofs.CountLemmas.{each_more, one_longer}
use Rattle.rma_cut.proofs.search.cut_before.Goals as goal

pub ranks-preserved : goal.ranks-preserved
ranks-preserved g c =
    let lens = c.args.lens.now in
    let rank = c.ranks.rank in
    rw c.in_ok-push.ensures.ok (record {
      size = one_longer c.ranks.cut rank c.count_asked-count.result c.ranks.invariant.size;
      counts = λ links are reached.
          let points = points_at lens rank in
          each_more (λ k n. IsCount (IsBeforeAsked links c.args.asked.now) k (2 * slice_index lens k) n) c.ranks.cut rank c.count_asked-count.result c.ranks.invariant.size (c.ranks.invariant.counts links are reached)
          (c.count_asked-count.ensures (points_of lens) links are (omega arith) reached);
    })
