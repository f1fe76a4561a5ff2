use Rattle.rma_history.proofs.PassedLemmas.{stays_passed}
use Rattle.rma_history.proofs.laws.passed_accesses_stay_passed.Goals as goal

pub returns : goal.returns
returns c = λ links windows spans next later a on passed. stays_passed links windows spans next later a on passed
