use Rattle.std.proofs.Common.{◌+◌, ap, refl, sym, ◌∙◌}
use Rattle.std.proofs.lemmas.Result.{err_from_is_err_and}
use Rattle.rma_form.specs.Forms.{form_at}
use Rattle.rma_form.specs.Tails.{tail_counted}
use Rattle.rma_parse.proofs.FieldLemmas.{counted_fields}
use Rattle.rma_parse.proofs.parse.counted.Goals as goal

pub returns-in_err-tail_counted-clause-gives : goal.returns-in_err-tail_counted-clause-gives
returns-in_err-tail_counted-clause-gives c =
    let counts = c.counts-kind_words.ensures in
    let same = counted_fields c.args.version c.args.form c.args.fields.now (c.counts-kind_words.result.0 + c.counts-kind_words.result.1) (rw (counts.kind_words, counts.further) refl) c.if-fields-least.false in
    let returned = err_from_is_err_and c.from_residual.result c.from_residual.ensures.1 in
    rw (returned.1, returned.2, same, ← c.behind.ensures.texts) (c.in_err-tail_counted.ensures)

pub returns-clause-gives : goal.returns-clause-gives
returns-clause-gives c =
    let counts = c.counts-kind_words.ensures in
    let same = counted_fields c.args.version c.args.form c.args.fields.now (c.counts-kind_words.result.0 + c.counts-kind_words.result.1) (rw (counts.kind_words, counts.further) refl) c.if-fields-least.false in
    same ∙ ap (tail_counted c.args.version (form_at c.args.form).tail) (sym c.behind.ensures.texts) ∙ c.in_ok-tail_counted.ensures
