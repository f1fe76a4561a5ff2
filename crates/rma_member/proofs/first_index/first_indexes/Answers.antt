use Rattle.std.proofs.Common.{Some, None, cond, nat_eq, ◌∙◌, ap}
use Rattle.std.specs.Option.{option_or}
use Rattle.std.specs.Cmp.Lexicographic.{pointwise}
use Rattle.rma_member.specs.Declaration.{is_of}
use Rattle.rma_member.proofs.FirstIndexLemmas.{position_more}
use Rattle.rma_member.proofs.first_index.first_indexes.Goals as goal

pub loop-index-preserved : goal.loop-index-preserved
loop-index-preserved g c = λ name.
    let i = c.loop-index.index in
    let declaration = c.index-list-index.result in
    c.in-Ok.ensures name
    ∙ ap (λ o. option_or o (cond (pointwise nat_eq declaration.name name) (Some i) None)) (c.loop-index.invariant name)
    ∙ position_more (is_of name) c.args.list.now i declaration c.loop-index-test.true c.index-list-index.is
