use Rattle.std.proofs.Common.{◌≡◌, Some, slice_get, sym, ap, ◌∙◌, arith}
use Rattle.std.proofs.lemmas.Option.{same_Some}
use Rattle.rma_run.specs.Run.{calls_of}
use Rattle.rma_round.specs.inside.Rounds.{names_in}
use Rattle.rma_member.specs.Member.{members}
use Rattle.rma_agreement.specs.inside.Agreement.{AgreeOn}
use Rattle.rma_agreement.specs.Balance.{IsBalanced}
use Rattle.rma_agreement.proofs.RegularLemmas.{all_regular}
use Rattle.rma_round.proofs.RowLemmas.{before_or_here}
use Rattle.rma_agreement.proofs.agreement.is_regular.Goals as goal

pub loop-i-preserved : goal.loop-i-preserved
loop-i-preserved c = λ j name below at.
    let kind = c.args.kind in
    let ranks = c.args.ranks.now in
    let names = names_in c.args.rounds.now in
    before_or_here (IsBalanced kind ranks name × AgreeOn kind ranks name) j c.loop-i.i below
    (λ before. c.loop-i.invariant j name before at)
    (λ same.
    let there : slice_get names c.loop-i.i ≡ Some name = ap (slice_get names) (sym same) ∙ at in
    let is : c.name.result.now ≡ name = same_Some c.name.result.now name (sym c.name.ensures ∙ there) in
    c.in_ok-is_regular_on.ensures c.if-not-branch.false kind name (c.rounds.ensures kind (calls_of ranks) c.requires.rounds name there) (c.of-own.ensures ranks c.requires.members ∙ ap (members kind ranks) is) (c.requires.places name))

pub returns : goal.returns
returns c = λ regular.
    all_regular c.args.kind c.args.ranks.now (names_in c.args.rounds.now) (c.len-i-end.ensures.each c.args.kind (calls_of c.args.ranks.now) c.requires.rounds)
    (λ j name below at. c.loop-i.invariant j name (omega (arith, below, c.loop-i-test.false, c.len-i-end.ensures.count)) at)
