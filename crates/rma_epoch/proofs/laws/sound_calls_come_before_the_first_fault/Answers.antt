use Rattle.rma_epoch.proofs.SoundLemmas.{fault_next, sound_first}
use Rattle.rma_epoch.proofs.laws.sound_calls_come_before_the_first_fault.Goals as goal

pub returns-clause-first : goal.returns-clause-first
returns-clause-first c = sound_first

pub returns-clause-fault : goal.returns-clause-fault
returns-clause-fault c = fault_next
