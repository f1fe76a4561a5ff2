use Rattle.std.proofs.Common.{sym, ◌∙◌}
use Rattle.rma_form.proofs.LineLemmas.{kind_form}
use Rattle.rma_form.proofs.form.lookup.searched_form.Goals as goal

pub returns-in-Some : goal.returns-in-Some
returns-in-Some c words first =
    kind_form c.args.version c.args.verb.now words c.in-Some.form c.args.kind c.form_of_kind.result (sym c.in-Some.is ∙ c.with_verb.ensures) c.if-has_kind.ensures first c.form_of_kind.ensures.none c.form_of_kind.ensures.some
