use Rattle.rma_form.proofs.HeadLemmas.{seen_form}
use Rattle.rma_form.proofs.form.lookup.form_of.Goals as goal

pub returns-in-Some : goal.returns-in-Some
returns-in-Some c words first = seen_form c.args.version c.args.verb.now words c.in-Some.form c.args.kind c.in-Some.ensures.0 c.in-Some.ensures.1 first
