use Rattle.std.proofs.Common.{[], take, get_or, subst, sym, arith}
use Rattle.std.specs.Prelude.{All}
use Rattle.std.proofs.lemmas.List.{take_all, take_more}
use Rattle.std.proofs.lemmas.List.Elements.{All-push}
use Rattle.rma_round.specs.declared.name_rounds.RankRounds.{RankRounds}
use Rattle.rma_agreement.specs.inside.Agreement.{RowAgrees}
use Rattle.rma_agreement.proofs.agreement.agree_with.Goals as goal

pub loop-i-preserved : goal.loop-i-preserved
loop-i-preserved c =
    let ranks = c.args.ranks.now in
    let rows = c.args.rows.now in
    let first = c.args.first in
    let i = c.loop-i.i in
    let none : RankRounds = record { rank = record { 0 = 0 }; numbers = record { ref_ptr = (0, 0); now = [] } } in
    let row = get_or rows i none in
    let agrees : RowAgrees ranks first row = c.row_agrees.ensures c.if-not-row_agrees.false in
    subst (All (RowAgrees ranks first)) (sym (take_more rows i none c.loop-i-test.true)) (All-push (RowAgrees ranks first) (take i rows) row c.loop-i.invariant agrees)

pub returns : goal.returns
returns c = λ regular.
    subst (All (RowAgrees c.args.ranks.now c.args.first)) (take_all c.loop-i.i c.args.rows.now (omega (arith, c.loop-i-test.false))) c.loop-i.invariant
