use Rattle.rma_form.proofs.WrittenLemmas.{written_local}
use Rattle.rma_form.proofs.line.local.line.Goals as goal

pub returns : goal.returns
returns c = written_local _ _ c.args.line.now c.verb-verb.ensures c.access_line.ensures
