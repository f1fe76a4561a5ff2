use Rattle.rma_form.proofs.TextLemmas.{texts_front}
use Rattle.rma_form.proofs.texts.first_of.Goals as goal

pub returns-clause-texts : goal.returns-clause-texts
returns-clause-texts c = texts_front c.args.count c.args.texts.now
