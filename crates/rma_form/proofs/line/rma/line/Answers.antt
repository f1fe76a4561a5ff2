use Rattle.std.proofs.Common.{ap, ◌++◌, ◌∙◌}
use Rattle.rma_form.specs.inside.AccessWords.{access_suffix, place_words}
use Rattle.rma_form.specs.inside.Suffix.{behind_space}
use Rattle.rma_form.proofs.WrittenLemmas.{written_access}
use Rattle.rma_form.proofs.line.rma.line.Goals as goal

pub returns : goal.returns
returns c =
    let line = c.args.line.now in
    written_access _ line c.args.request.now
    (c.in_ok-push_access.ensures ∙ ap (λ text. text ++ access_suffix line.access)
    (c.in_ok-push_place.ensures ∙ ap (λ text. text ++ behind_space (place_words line.window line.target line.displacement)) c.in_ok-text.ensures))
