use Rattle.rma_audit.proofs.SaysLemmas.{says_count}
use Rattle.rma_audit.proofs.program.run_trial.Goals as goal

pub returns-in-Ok-clause-answer : goal.returns-in-Ok-clause-answer
returns-in-Ok-clause-answer g c = λ words before after opened asked.
    says_count _ c.args.trial c.in-Ok.findings asked c.in-Ok.ensures c.write_count.result c.write_count.ensures.written
