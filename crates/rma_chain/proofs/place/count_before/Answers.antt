use Rattle.std.proofs.Common.{◌≡◌, ◌-◌, ◌<◌, length, Some, slice_get, refl, sym, arith}
use Rattle.std.proofs.lemmas.Option.{slice_get_within}
use Rattle.rma_chain.proofs.FollowLemmas.{earlier_before}
use Rattle.rma_chain.proofs.PlaceLemmas.{contained}
use Rattle.rma_chain.proofs.place.count_before.Goals as goal

pub before-requires-clause-a : goal.before-requires-clause-a
before-requires-clause-a g c =
    let chain = c.args.chain.now in
    let last = c.in-Some.last.now in
    (c.requires.clocks.3 last (contained chain (length chain - 1) last (sym c.in-Some.ensures.value))).on_a

pub before-requires-clause-b : goal.before-requires-clause-b
before-requires-clause-b g c =
    let chain = c.args.chain.now in
    let last = c.in-Some.last.now in
    (c.requires.clocks.3 last (contained chain (length chain - 1) last (sym c.in-Some.ensures.value))).on_b

pub before-requires-clause-clocks : goal.before-requires-clause-clocks
before-requires-clause-clocks g c =
    let chain = c.args.chain.now in
    let last = c.in-Some.last.now in
    let some = c.requires.clocks in
    (some.0, some.1, some.2, (some.3 last (contained chain (length chain - 1) last (sym c.in-Some.ensures.value))).reached)

pub returns-in-Some-clause-before : goal.returns-in-Some-clause-before
returns-in-Some-clause-before g c = λ points links are known k a there less.
    let chain = c.args.chain.now in
    let last = c.in-Some.last.now in
    let at : slice_get chain (length chain - 1) ≡ Some last = sym c.in-Some.ensures.value in
    let told = (c.if-before.ensures points links are (known last (contained chain (length chain - 1) last at)).reached).0 refl in
    earlier_before links c.args.windows.now c.args.lists.now a last (c.requires.chain k (length chain - 1) a last (omega arith) there at) c.args.access.now told

pub returns-in-Some-clause-not_before : goal.returns-in-Some-clause-not_before
returns-in-Some-clause-not_before g c = λ points links are known k a there less is.
    let within : k < length c.args.chain.now = slice_get_within c.args.chain.now k a there in
    absurd (omega arith)
