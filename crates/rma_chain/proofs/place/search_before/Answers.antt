use Rattle.std.proofs.Common.{◌≡◌, ◌+◌, ◌-◌, ◌/◌, ◌<◌, length, Some, slice_get, arith}
use Rattle.rma_chain.proofs.FollowLemmas.{earlier_before}
use Rattle.rma_chain.proofs.PlaceLemmas.{contained, read}
use Rattle.rma_chain.proofs.place.search_before.Goals as goal

pub before-requires-clause-a : goal.before-requires-clause-a
before-requires-clause-a g c =
    let chain = c.args.chain.now in
    let middle = c.search.low + (c.search.high - c.search.low) / 2 in
    let asked = c.index-chain-middle.result in
    let within : middle < length chain = omega arith in
    (c.requires.clocks.3 asked (contained chain middle asked (read chain middle asked within c.index-chain-middle.is))).on_a

pub before-requires-clause-b : goal.before-requires-clause-b
before-requires-clause-b g c =
    let chain = c.args.chain.now in
    let middle = c.search.low + (c.search.high - c.search.low) / 2 in
    let asked = c.index-chain-middle.result in
    let within : middle < length chain = omega arith in
    (c.requires.clocks.3 asked (contained chain middle asked (read chain middle asked within c.index-chain-middle.is))).on_b

pub before-requires-clause-clocks : goal.before-requires-clause-clocks
before-requires-clause-clocks g c =
    let chain = c.args.chain.now in
    let middle = c.search.low + (c.search.high - c.search.low) / 2 in
    let asked = c.index-chain-middle.result in
    let within : middle < length chain = omega arith in
    let some = c.requires.clocks in
    (some.0, some.1, some.2, (some.3 asked (contained chain middle asked (read chain middle asked within c.index-chain-middle.is))).reached)

pub search-preserved-then-before : goal.search-preserved-then-before
search-preserved-then-before g c =
    let chain = c.args.chain.now in
    let middle = c.search.low + (c.search.high - c.search.low) / 2 in
    let asked = c.index-chain-middle.result in
    let within : middle < length chain = omega arith in
    let at : slice_get chain middle ≡ Some asked = read chain middle asked within c.index-chain-middle.is in
    record {
      low = omega arith;
      high = c.search.invariant.high;
      before = λ points links are known k a there less.
          let told = (c.before-in-search.ensures points links are (known asked (contained chain middle asked at)).reached).0 c.if-before.true in
          earlier_before links c.args.windows.now c.args.lists.now a asked (c.requires.chain k middle a asked (omega arith) there at) c.args.access.now told;
      not_before = c.search.invariant.not_before;
    }

pub search-preserved : goal.search-preserved
search-preserved g c =
    let chain = c.args.chain.now in
    let middle = c.search.low + (c.search.high - c.search.low) / 2 in
    let asked = c.index-chain-middle.result in
    let within : middle < length chain = omega arith in
    let at : slice_get chain middle ≡ Some asked = read chain middle asked within c.index-chain-middle.is in
    record {
      low = omega arith;
      high = omega arith;
      before = c.search.invariant.before;
      not_before = λ points links are known k a there less is.
          let yes = (c.before-in-search.ensures points links are (known asked (contained chain middle asked at)).reached).1
          (earlier_before links c.args.windows.now c.args.lists.now asked a (c.requires.chain middle k asked a less at there) c.args.access.now is) in
          let no = c.if-before.false in
          cc;
    }
