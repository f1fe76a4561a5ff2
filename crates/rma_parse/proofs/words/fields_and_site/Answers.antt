use Rattle.std.proofs.Common.{◌≡◌, None, sym, ◌∙◌}
use Rattle.rma_form.specs.Lines.{site_text}
use Rattle.rma_field.specs.Texts.{texts_at}
use Rattle.rma_parse.proofs.WordLemmas.{fields_all, fields_found, site_found, site_missed, site_of_none}
use Rattle.rma_parse.proofs.words.fields_and_site.Goals as goal
use Rattle.rma_parse.proofs.words.fields_and_site.Goals.{in_default-via-in-Some+else-begins_with, in_default-via-in_default}

pub returns-in-Some-clause-fields : goal.returns-in-Some-clause-fields
returns-in-Some-clause-fields c = sym (fields_found c.args.words.now _ c.in-Some.word.now c.in-Some.ensures.cases.0 (sym c.begins_with.ensures ∙ c.if-begins_with.true))

pub returns-in-Some-clause-site : goal.returns-in-Some-clause-site
returns-in-Some-clause-site c = sym (site_found c.args.words.now _ c.in-Some.word.now c.in-Some.ensures.cases.0 (sym c.begins_with.ensures ∙ c.if-begins_with.true))

no_site : (c : goal.In_default) → site_text (texts_at c.args.words.now) ≡ None
no_site c = elim c.in_default.branch [
  | in_default-via-in-Some+else-begins_with w ↦ site_missed c.args.words.now _ w.in-Some.word.now w.in-Some.ensures.cases.0 (sym w.begins_with.ensures ∙ w.if-begins_with.false)
  | in_default-via-in_default w ↦ site_of_none c.args.words.now w.in_default.ensures.cases
]

pub returns-in_default-clause-fields : goal.returns-in_default-clause-fields
returns-in_default-clause-fields c = sym (fields_all (texts_at c.args.words.now) (no_site c))

pub returns-in_default-clause-site : goal.returns-in_default-clause-site
returns-in_default-clause-site c = sym (no_site c)
