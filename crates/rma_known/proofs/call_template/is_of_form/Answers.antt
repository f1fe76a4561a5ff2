use Rattle.std.proofs.Common.{◌≡◌, Ok, ap, rules, sym, ◌∙◌}
use denote.Enum.Bare.{same_true}
use Rattle.rma_form.specs.contracts.form.LineForm.{the_type}
use Rattle.rma_lex.specs.Field.{texts}
use Rattle.rma_known.proofs.call_template.is_of_form.Goals as goal

pub returns-in-Ok : goal.returns-in-Ok
returns-in-Ok c = λ is.
    let same : c.line_form.result ≡ c.in-Ok.found = same_true the_type (search rules) _ _ (sym c.eq.ensures ∙ is) in
    (c.in-Some.verb.text.now, texts c.next.new.self, ap texts (sym c.tokens-rest.ensures.fields ∙ c.in-Some.ensures.steps), c.in-Ok.ensures (texts c.next.new.self) c.first_of.ensures ∙ ap Ok (sym same ∙ c.line_form.ensures))
