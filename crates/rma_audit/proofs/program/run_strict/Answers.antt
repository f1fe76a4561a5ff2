use Rattle.rma_command.specs.Words.{AuditsStrictly}
use Rattle.rma_command.specs.Asked.{strict_of}
use Rattle.rma_audit.proofs.SaysLemmas.{says_strict, says_stopped}
use Rattle.rma_audit.proofs.program.run_strict.Goals as goal

pub returns-in-Ok-clause-answer : goal.returns-in-Ok-clause-answer
returns-in-Ok-clause-answer g c = λ words asked. says_strict _ (strict_of c.args.strict) c.in-Ok.findings asked c.in-Ok.ensures.judged c.write_limited.result c.write_limited.ensures.written

pub returns-in-Err-clause-answer : goal.returns-in-Err-clause-answer
returns-in-Err-clause-answer g c = λ words asked.
    rw c.status_of.ensures (says_stopped _ (AuditsStrictly (strict_of c.args.strict)) asked tt c.in-Err.stop c.in-Err.ensures.stopped)
