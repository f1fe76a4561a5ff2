use Rattle.rma_command.specs.Words.{Audits}
use Rattle.rma_command.specs.Asked.{audit_of}
use Rattle.rma_audit.proofs.SaysLemmas.{says_audit, says_stopped}
use Rattle.rma_audit.proofs.program.run_audit.Goals as goal

pub returns-in-Ok-clause-answer : goal.returns-in-Ok-clause-answer
returns-in-Ok-clause-answer g c = λ words asked. says_audit _ (audit_of c.args.audit) c.in-Ok.findings asked c.in-Ok.ensures.judged c.write_report.result c.write_report.ensures.written

pub returns-in-Err-clause-answer : goal.returns-in-Err-clause-answer
returns-in-Err-clause-answer g c = λ words asked.
    rw c.status_of.ensures (says_stopped _ (Audits (audit_of c.args.audit)) asked tt c.in-Err.stop c.in-Err.ensures.stopped)
