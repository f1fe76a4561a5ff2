use Rattle.std.proofs.Common.{[], take, get_or, subst, sym, arith}
use Rattle.std.specs.Prelude.{All}
use Rattle.std.proofs.lemmas.List.{take_all, take_more}
use Rattle.std.proofs.lemmas.List.Elements.{All-push}
use Rattle.rma_round.specs.declared.name_rounds.RankRounds.{RankRounds}
use Rattle.rma_round.specs.inside.Rounds.{calls_in}
use Rattle.rma_agreement.specs.inside.Place.{HavePlaces, RowIsPlaced, place_in_round}
use Rattle.rma_agreement.proofs.place.are_placed_as.Goals as goal

pub loop-i-preserved : goal.loop-i-preserved
loop-i-preserved c =
    let rows = c.args.rows.now in
    let others = c.args.others.now in
    let first = c.args.first in
    let i = c.loop-i.i in
    let none : RankRounds = record { rank = record { 0 = 0 }; numbers = record { ref_ptr = (0, 0); now = [] } } in
    let row = get_or rows i none in
    let placed : RowIsPlaced others first row = λ first_ascends row_ascends.
    subst (λ l. HavePlaces (place_in_round l first.numbers.now) (calls_in others row.rank.0) row.numbers.now) c.of-first_others.ensures
    (subst (λ l. HavePlaces (place_in_round c.of-first_others.result.now first.numbers.now) l row.numbers.now) c.of.ensures
    (c.have_places.ensures c.if-not-have_places.false first_ascends row_ascends)) in
    subst (All (RowIsPlaced others first)) (sym (take_more rows i none c.loop-i-test.true)) (All-push (RowIsPlaced others first) (take i rows) row c.loop-i.invariant placed)

pub returns : goal.returns
returns c = λ same.
    subst (All (RowIsPlaced c.args.others.now c.args.first)) (take_all c.loop-i.i c.args.rows.now (omega (arith, c.loop-i-test.false))) c.loop-i.invariant
