use Rattle.std.proofs.Common.{ap, sym, ◌∙◌, ◌++◌, ◌∷◌}
use Rattle.std.specs.List.{join_with_byte}
use Rattle.rma_call.specs.Assertion.{all_assertions}
use Rattle.rma_field.specs.Assertions.{assertion_words}
use Rattle.rma_form.proofs.LineTextLemmas.{five_suffixes, join_spaced, spaced_assertions}
use Rattle.rma_form.proofs.line.asserted_line.Goals as goal

pub returns : goal.returns
returns c first words is =
    let front = join_with_byte 32 (first ∷ words) in
    rw (c.in_ok-push_assertion-5.ensures, c.in_ok-push_assertion-4.ensures, c.in_ok-push_assertion-3.ensures, c.in_ok-push_assertion-2.ensures, c.in_ok-push_assertion.ensures, is)
    (five_suffixes front _ _ _ _ _ ∙ sym (join_spaced first words (assertion_words c.args.assertions) ∙ ap (λ more. front ++ more) (spaced_assertions c.args.assertions all_assertions)))
