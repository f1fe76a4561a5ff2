use Rattle.rma_exposure.proofs.ClosingLemmas.{closing_is, closing_has}
use Rattle.rma_exposure.proofs.laws.epochs_are_closed_once.Goals as goal

pub returns-clause-is : goal.returns-clause-is
returns-clause-is c = closing_is

pub returns-clause-has : goal.returns-clause-has
returns-clause-has c = closing_has
