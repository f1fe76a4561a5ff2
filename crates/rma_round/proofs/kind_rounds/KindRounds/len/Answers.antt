use Rattle.rma_round.proofs.KeptLemmas.{is_kept}
use Rattle.rma_round.proofs.kind_rounds.KindRounds.len.Goals as goal

pub returns-clause-each : goal.returns-clause-each
returns-clause-each c = λ kind calls are. is_kept kind calls c.args.self.now are
