use Rattle.rma_history.proofs.PassedLemmas.{no_race_to_come}
use Rattle.rma_history.proofs.laws.passed_accesses_race_with_none_to_come.Goals as goal

pub returns : goal.returns
returns c = λ links windows spans next a b race passed later of on_window found. no_race_to_come links windows spans next a b race passed later of on_window found
