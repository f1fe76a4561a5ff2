use Rattle.std.proofs.Common.{ℕ, List, refl, sym, subst}
use Rattle.std.proofs.lemmas.Map.Iter.{rest_more, rest_all}
use Rattle.rma_run.specs.Run.{with_calls}
use Rattle.rma_round.proofs.OwnLemmas.{ArePartlyTaken, taken_begun, taken_more, taken_whole}
use Rattle.rma_round.proofs.kind_rounds.KindRounds.take_all.Goals as goal

abbrev same : List ℕ × List ℕ → List ℕ × List ℕ
same entry = entry

pub loop-name-init : goal.loop-name-init
loop-name-init c = λ kind calls more none lists are.
    let rank = c.args.rank.0 in
    let gives = c.into_iter-name-iterator.ensures.into_iter_gives in
    subst (λ l. ArePartlyTaken kind (with_calls calls rank more) rank l c.args.self.now) (sym gives.0) (taken_begun kind calls rank more none c.args.self.now c.args.own.entries gives.4 lists are)

pub loop-name-preserved : goal.loop-name-preserved
loop-name-preserved c = λ kind calls more none lists are.
    let rank = c.args.rank.0 in
    let now = with_calls calls rank more in
    let name = c.in-Some.name in
    let numbers = c.in-Some.numbers in
    let rest = c.next.new.self in
    let step = rest_more same c.loop-name.name-iterator rest c.next.result (name, numbers) c.in-Some.is c.next.ensures.steps in
    taken_more kind now rank name numbers rest c.loop-name.self (record c.loop-name.self { names = c.put.new.names }) refl c.in_ok-put.ensures.own c.in_ok-put.ensures.others
    (subst (λ l. ArePartlyTaken kind now rank l c.loop-name.self) step (c.loop-name.invariant kind calls more none lists are))

pub returns : goal.returns
returns c = λ kind calls more none lists are.
    let end = rest_all same c.loop-name.name-iterator c.next.new.self c.next.result c.in-None.is c.next.ensures.steps in
    taken_whole kind (with_calls calls c.args.rank.0 more) c.args.rank.0 c.loop-name.name-iterator c.loop-name.self end (c.loop-name.invariant kind calls more none lists are)
