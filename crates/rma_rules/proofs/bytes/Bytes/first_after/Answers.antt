use Rattle.std.proofs.Common.{◌+◌, ◌-◌, ◌/◌, arith}
use Rattle.std.proofs.lemmas.Int.{ints}
use Rattle.std.proofs.lemmas.Option.{get_or_from_slice_get, slice_get_within}
use Rattle.rma_bytes.proofs.RunLemmas.{in_order}
use Rattle.rma_rules.proofs.WalkLemmas.{is_good}
use Rattle.rma_rules.proofs.bytes.Bytes.first_after.Goals as goal

pub end-requires : goal.end-requires
end-requires c = (is_good c.args.self.now _ c.get.result c.len-high.ensures.canonical c.get.ensures).0

pub search-preserved-then-end-at : goal.search-preserved-then-end-at
search-preserved-then-end-at c =
    let runs = c.args.self.now in
    let middle = c.search.low + (c.search.high - c.search.low) / 2 in
    let within = slice_get_within runs middle c.get.result c.get.ensures in
    record {
      in_order = omega arith;
      in_list = omega arith;
      before = λ k d lt.
          let order = rw (get_or_from_slice_get runs middle c.get.result d c.get.ensures) at (in_order runs k middle d c.len-high.ensures.canonical (omega arith) within) in
          let ends = order.1 in
          grind (arith, ints);
      after = c.search.invariant.after;
    }

pub search-preserved : goal.search-preserved
search-preserved c =
    let runs = c.args.self.now in
    let middle = c.search.low + (c.search.high - c.search.low) / 2 in
    let within = slice_get_within runs middle c.get.result c.get.ensures in
    record {
      in_order = omega arith;
      in_list = omega arith;
      before = c.search.invariant.before;
      after = λ k d le lt.
          let order = rw (get_or_from_slice_get runs middle c.get.result d c.get.ensures) at (in_order runs middle k d c.len-high.ensures.canonical le lt) in
          let ends = order.1 in
          grind (arith, ints);
    }
