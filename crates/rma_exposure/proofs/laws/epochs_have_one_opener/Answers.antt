use Rattle.rma_exposure.proofs.OpenerLemmas.{opener_is, opener_has}
use Rattle.rma_exposure.proofs.laws.epochs_have_one_opener.Goals as goal

pub returns-clause-is : goal.returns-clause-is
returns-clause-is c = opener_is

pub returns-clause-has : goal.returns-clause-has
returns-clause-has c = opener_has
