use Rattle.rma_kept.proofs.ListLemmas.{awaited_once, created_once, declared_once, made_once}
use Rattle.rma_kept.proofs.laws.names_are_given_once.Goals as goal

pub returns-clause-requests : goal.returns-clause-requests
returns-clause-requests c = λ rank logs i j number calls one other kept here there. made_once rank logs calls kept i j one other here there number

pub returns-clause-waits : goal.returns-clause-waits
returns-clause-waits c = λ rank logs i j number calls one other kept here there. awaited_once rank logs calls kept i j one other here there number

pub returns-clause-windows : goal.returns-clause-windows
returns-clause-windows c = λ rank logs i j window calls one other kept here there. created_once rank logs calls kept i j one other here there window

pub returns-clause-comms : goal.returns-clause-comms
returns-clause-comms c = λ rank logs i j comm calls one other kept here there. declared_once rank logs calls kept i j one other here there comm
