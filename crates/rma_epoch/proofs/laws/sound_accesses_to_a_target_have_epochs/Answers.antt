use Rattle.rma_epoch.proofs.OneLemmas.{accesses_have_epochs}
use Rattle.rma_epoch.proofs.TableLemmas.{placed_in_order}
use Rattle.rma_epoch.proofs.laws.sound_accesses_to_a_target_have_epochs.Goals as goal

pub returns-clause-have : goal.returns-clause-have
returns-clause-have c = accesses_have_epochs

pub returns-clause-one : goal.returns-clause-one
returns-clause-one c = placed_in_order
