use Rattle.std.proofs.Common.{◌++◌, ◌∷◌, [], ap, ◌∙◌}
use Rattle.std.specs.Prelude.{option_map}
use Rattle.std.proofs.lemmas.Result.{err_from_is_err_and}
use Rattle.rma_field.specs.Ranks.{numbers, pieces_left}
use Rattle.rma_field.proofs.RankFieldLemmas.{numbers_none, numbers_step, Fails_none}
use Rattle.rma_field.proofs.rank_set.read_numbers.Goals as goal

pub returns-in_err-add-clause-err : goal.returns-in_err-add-clause-err
returns-in_err-add-clause-err c =
    let returned = err_from_is_err_and c.from_residual.result c.from_residual.ensures.1 in
    let read = c.pieces.invariant.1 in
    rw (returned.1, returned.2)
    (Fails_none _ c.in_err-add.field-0.0 _
    (λ other. read ∙ ap (λ more. option_map (λ them. c.pieces.invariant.0 ++ them) (numbers more)) (ap pieces_left c.in-Some.is ∙ c.cut.ensures.pieces) ∙ ap (option_map (λ them. c.pieces.invariant.0 ++ them)) (numbers_none c.cut.result.0.now (pieces_left c.cut.result.1) (c.in_err-add.ensures.err other).0))
    (λ other. (c.in_err-add.ensures.err other).1))

pub pieces-preserved : goal.pieces-preserved
pieces-preserved c =
    let before = c.pieces.invariant in
    let added = c.in_ok-add.ensures.ok in
    let read = before.1 ∙ ap (λ left. option_map (λ more. before.0 ++ more) (numbers left)) (ap pieces_left c.in-Some.is ∙ c.cut.ensures.pieces) in
    (before.0 ++ added.0 ∷ [], read ∙ numbers_step before.0 added.0 c.cut.result.0.now (pieces_left c.cut.result.1) added.1, added.2 before.0 before.2)
