use Rattle.rma_form.proofs.TextLemmas.{texts_behind}
use Rattle.rma_form.proofs.texts.behind.Goals as goal

pub returns-clause-texts : goal.returns-clause-texts
returns-clause-texts c = texts_behind c.args.from c.args.texts.now
