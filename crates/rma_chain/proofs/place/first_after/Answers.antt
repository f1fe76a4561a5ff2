use Rattle.std.proofs.Common.{◌≡◌, ◌+◌, ◌-◌, ◌/◌, ◌<◌, length, Some, slice_get, arith}
use Rattle.rma_chain.proofs.FollowLemmas.{later_after}
use Rattle.rma_chain.proofs.PlaceLemmas.{contained, read}
use Rattle.rma_chain.proofs.place.first_after.Goals as goal

pub before-requires-clause-a : goal.before-requires-clause-a
before-requires-clause-a g c =
    let chain = c.args.chain.now in
    let middle = c.search.low + (c.search.high - c.search.low) / 2 in
    let asked = c.index-chain-middle.result in
    let within : middle < length chain = omega arith in
    (c.requires.clocks.3 asked (contained chain middle asked (read chain middle asked within c.index-chain-middle.is))).on_b

pub before-requires-clause-b : goal.before-requires-clause-b
before-requires-clause-b g c =
    let chain = c.args.chain.now in
    let middle = c.search.low + (c.search.high - c.search.low) / 2 in
    let asked = c.index-chain-middle.result in
    let within : middle < length chain = omega arith in
    (c.requires.clocks.3 asked (contained chain middle asked (read chain middle asked within c.index-chain-middle.is))).on_a

pub before-requires-clause-clocks : goal.before-requires-clause-clocks
before-requires-clause-clocks g c =
    let chain = c.args.chain.now in
    let middle = c.search.low + (c.search.high - c.search.low) / 2 in
    let asked = c.index-chain-middle.result in
    let within : middle < length chain = omega arith in
    let some = c.requires.clocks in
    (some.0, some.1, some.2, (some.3 asked (contained chain middle asked (read chain middle asked within c.index-chain-middle.is))).reached_back)

pub search-preserved-then-before : goal.search-preserved-then-before
search-preserved-then-before g c =
    let chain = c.args.chain.now in
    let middle = c.search.low + (c.search.high - c.search.low) / 2 in
    let asked = c.index-chain-middle.result in
    let within : middle < length chain = omega arith in
    let at : slice_get chain middle ≡ Some asked = read chain middle asked within c.index-chain-middle.is in
    record {
      low = omega arith;
      high = omega arith;
      after = λ points links are known k a there less.
          let told = (c.before-in-search.ensures points links are (known asked (contained chain middle asked at)).reached_back).0 c.if-before.true in
          later_after links c.args.windows.now c.args.lists.now asked a (c.requires.chain middle k asked a less at there) c.args.access.now told;
      not_after = c.search.invariant.not_after;
    }

pub search-preserved : goal.search-preserved
search-preserved g c =
    let chain = c.args.chain.now in
    let middle = c.search.low + (c.search.high - c.search.low) / 2 in
    let asked = c.index-chain-middle.result in
    let within : middle < length chain = omega arith in
    let at : slice_get chain middle ≡ Some asked = read chain middle asked within c.index-chain-middle.is in
    record {
      low = omega arith;
      high = c.search.invariant.high;
      after = c.search.invariant.after;
      not_after = λ points links are known k a there less is.
          let yes = (c.before-in-search.ensures points links are (known asked (contained chain middle asked at)).reached_back).1
          (later_after links c.args.windows.now c.args.lists.now a asked (c.requires.chain k middle a asked (omega arith) there at) c.args.access.now is) in
          let no = c.if-before.false in
          cc;
    }

pub returns-clause-after : goal.returns-clause-after
returns-clause-after g c = λ points links are known k a there less. c.search.invariant.after points links are known k a there (omega arith)
