use Rattle.rma_command.specs.Words.{Explains}
use Rattle.rma_command.specs.Asked.{explain_of}
use Rattle.rma_audit.proofs.SaysLemmas.{says_explained, says_stopped}
use Rattle.rma_audit.proofs.program.run_explain.Goals as goal

pub returns-in-Ok-clause-answer : goal.returns-in-Ok-clause-answer
returns-in-Ok-clause-answer g c = λ words asked.
    says_explained _ (explain_of c.args.explain) c.in-Ok.explained.findings c.in-Ok.explained.cuts asked c.in-Ok.ensures.judged c.write_explained.result c.write_explained.ensures.written

pub returns-in-Err-clause-answer : goal.returns-in-Err-clause-answer
returns-in-Err-clause-answer g c = λ words asked.
    rw c.status_of.ensures (says_stopped _ (Explains (explain_of c.args.explain)) asked tt c.in-Err.stop c.in-Err.ensures.stopped)
