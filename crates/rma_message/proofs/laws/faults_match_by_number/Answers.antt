use Rattle.rma_message.proofs.NumberedLemmas.{fault_by_number, fault_of_number}
use Rattle.rma_message.proofs.laws.faults_match_by_number.Goals as goal

pub returns : goal.returns
returns c = λ reason others own fault. (fault_by_number reason others own fault, fault_of_number reason others own fault)
