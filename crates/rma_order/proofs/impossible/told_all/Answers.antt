use Rattle.std.proofs.Common.{◌++◌, [], List, length, refl, ap, ◌∙◌}
use Rattle.std.specs.List.{cons_option}
use Rattle.std.specs.Option.{option_and_then}
use Rattle.std.proofs.lemmas.Option.{slice_get_read}
use Rattle.rma_order.specs.declared.impossible.ImpossibleCall.{ImpossibleCall}
use Rattle.rma_order.specs.Impossible.{first_at, told}
use Rattle.rma_order.proofs.ToldLemmas.{told_more}
use Rattle.rma_order.proofs.impossible.told_all.Goals as goal

pub loop-rank-preserved : goal.loop-rank-preserved
loop-rank-preserved c =
    let ranks = c.args.ranks.now in
    let firsts = c.args.firsts.now in
    let i = c.loop-rank.rank in
    let own = c.index-ranks-rank.result in
    c.in_ok-push_told.ensures
    ∙ ap (λ o. c.loop-rank.found ++ cons_option (option_and_then (told own) o) []) c.first_at.ensures
    ∙ ap (λ (found : List ImpossibleCall). found ++ cons_option (option_and_then (told own) (first_at firsts i)) []) c.loop-rank.invariant
    ∙ told_more ranks firsts i own (slice_get_read ranks (length ranks) i own refl c.loop-rank-test.true c.index-ranks-rank.is)
