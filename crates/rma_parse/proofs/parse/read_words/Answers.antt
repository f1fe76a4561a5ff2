use Rattle.std.proofs.Common.{ap, drop, subst, ◌∙◌}
use Rattle.std.proofs.lemmas.Result.{err_from_is_err_and}
use Rattle.rma_lex.specs.Field.{fields, texts}
use Rattle.rma_field.specs.Steps.{Fails}
use Rattle.rma_form.specs.Forms.{event_of}
use Rattle.rma_form.specs.Lines.{fields_of, site_text}
use Rattle.rma_parse.proofs.LineLemmas.{count_fails, event_fails, form_fails, site_fails, states_event}
use Rattle.rma_parse.proofs.parse.read_words.Goals as goal

pub returns-in_err-form : goal.returns-in_err-form
returns-in_err-form c =
    let returned = err_from_is_err_and c.from_residual.result c.from_residual.ensures.1 in
    let are = c.fields_and_site.ensures.fields ∙ ap fields_of c.in-Ok.ensures in
    let at = c.fields_and_site.ensures.site ∙ ap site_text c.in-Ok.ensures in
    rw (returned.1, returned.2) (form_fails c.args.version c.args.verb.now (drop 1 (texts (fields c.args.line.now))) _ _ are at _ c.in_err-form.ensures)

pub returns-in_err-further : goal.returns-in_err-further
returns-in_err-further c =
    let returned = err_from_is_err_and c.from_residual-in_err-further.result c.from_residual-in_err-further.ensures.1 in
    let are = c.fields_and_site.ensures.fields ∙ ap fields_of c.in-Ok.ensures in
    let at = c.fields_and_site.ensures.site ∙ ap site_text c.in-Ok.ensures in
    rw (returned.1, returned.2) (count_fails c.args.version c.args.verb.now (drop 1 (texts (fields c.args.line.now))) _ _ are at _ c.in_ok-form.ensures _ c.in_err-further.ensures.gives)

pub returns-in_err-site : goal.returns-in_err-site
returns-in_err-site c =
    let returned = err_from_is_err_and c.from_residual-in_err-site.result c.from_residual-in_err-site.ensures.1 in
    let are = c.fields_and_site.ensures.fields ∙ ap fields_of c.in-Ok.ensures in
    let at = c.fields_and_site.ensures.site ∙ ap site_text c.in-Ok.ensures in
    rw (returned.1, returned.2) (site_fails c.args.version c.args.verb.now (drop 1 (texts (fields c.args.line.now))) _ _ are at _ c.in_ok-form.ensures c.in_ok-further.ensures.gives _ c.in_err-site.ensures)

pub returns-in-Err-read_fields : goal.returns-in-Err-read_fields
returns-in-Err-read_fields c =
    let are = c.fields_and_site.ensures.fields ∙ ap fields_of c.in-Ok.ensures in
    let at = c.fields_and_site.ensures.site ∙ ap site_text c.in-Ok.ensures in
    let further = subst (λ them. Fails c.in-Err-read_fields.error (event_of c.args.version c.in_ok-form.form them)) c.in_ok-further.ensures.further c.in-Err-read_fields.ensures in
    event_fails c.args.version c.args.verb.now (drop 1 (texts (fields c.args.line.now))) _ _ are at _ c.in_ok-form.ensures c.in_ok-further.ensures.gives _ c.in_ok-site.ensures _ further

pub returns : goal.returns
returns c =
    let are = c.fields_and_site.ensures.fields ∙ ap fields_of c.in-Ok.ensures in
    let at = c.fields_and_site.ensures.site ∙ ap site_text c.in-Ok.ensures in
    let made = ap (event_of c.args.version c.in_ok-form.form) c.in_ok-further.ensures.further in
    states_event c.args.version c.args.verb.now (drop 1 (texts (fields c.args.line.now))) _ _ are at _ c.in_ok-form.ensures c.in_ok-further.ensures.gives _ c.in_ok-site.ensures _ (rw made at c.in-Ok-read_fields.ensures)
