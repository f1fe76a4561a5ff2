use Rattle.rma_epoch.proofs.CloseLemmas.{close_comes_later, closes_one}
use Rattle.rma_epoch.proofs.TableLemmas.{epochs_ascend}
use Rattle.rma_epoch.proofs.laws.epochs_ascend_and_are_closed_once.Goals as goal

pub returns-clause-ascend : goal.returns-clause-ascend
returns-clause-ascend c = epochs_ascend

pub returns-clause-later : goal.returns-clause-later
returns-clause-later c = close_comes_later

pub returns-clause-one : goal.returns-clause-one
returns-clause-one c = closes_one
