use Rattle.std.proofs.Common.{◌≡◌, ◌+◌, ◌-◌, ◌/◌, ◌<◌, length, Some, slice_get, arith}
use Rattle.rma_chain.proofs.PlaceLemmas.{contained, read}
use Rattle.rma_history.proofs.PassedLemmas.{follower_passed}
use Rattle.rma_history.proofs.retire.count_passed.Goals as goal

pub is_passed-requires : goal.is_passed-requires
is_passed-requires g c =
    let chain = c.args.chain.now in
    let middle = c.search.low + (c.search.high - c.search.low) / 2 in
    let asked = c.index-chain-middle.result in
    let within : middle < length chain = omega arith in
    let some = c.requires.clocks in
    (some.0, some.1, some.2, some.3 asked (contained chain middle asked (read chain middle asked within c.index-chain-middle.is)))

pub search-preserved-then-is_passed : goal.search-preserved-then-is_passed
search-preserved-then-is_passed g c =
    let chain = c.args.chain.now in
    let middle = c.search.low + (c.search.high - c.search.low) / 2 in
    let asked = c.index-chain-middle.result in
    let within : middle < length chain = omega arith in
    let at : slice_get chain middle ≡ Some asked = read chain middle asked within c.index-chain-middle.is in
    record {
      low = omega arith;
      high = c.search.invariant.high;
      passed = λ points links are known behind k a there less.
          follower_passed links c.args.windows.now c.args.lists.now c.args.next.now a asked (c.requires.chain k middle a asked (omega arith) there at)
          (c.is_passed.ensures.passed points links are (known asked (contained chain middle asked at)) (c.search.invariant.behind points links are known behind) c.if-is_passed.true);
      behind = λ points links are known behind. c.is_passed.ensures.behind points links are (known asked (contained chain middle asked at)) (c.search.invariant.behind points links are known behind);
    }

pub search-preserved : goal.search-preserved
search-preserved g c =
    let chain = c.args.chain.now in
    let middle = c.search.low + (c.search.high - c.search.low) / 2 in
    let asked = c.index-chain-middle.result in
    let within : middle < length chain = omega arith in
    let at : slice_get chain middle ≡ Some asked = read chain middle asked within c.index-chain-middle.is in
    record {
      low = omega arith;
      high = omega arith;
      passed = c.search.invariant.passed;
      behind = λ points links are known behind. c.is_passed.ensures.behind points links are (known asked (contained chain middle asked at)) (c.search.invariant.behind points links are known behind);
    }
