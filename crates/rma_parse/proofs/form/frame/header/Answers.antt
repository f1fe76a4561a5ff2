use Rattle.rma_form.proofs.HeadLemmas.{named_is}
use Rattle.rma_parse.proofs.form.frame.header.Goals as goal

pub returns-in-Ok : goal.returns-in-Ok
returns-in-Ok c = rw (named_is c.args.log c.args.word.now c.in-Ok.version (c.in-Ok.ensures)) c.header_in.ensures
