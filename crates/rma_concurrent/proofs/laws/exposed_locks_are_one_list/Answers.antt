use Rattle.rma_concurrent.specs.Concurrent.{IsExposed, lock_order}
use Rattle.rma_concurrent.proofs.ListLemmas.{all_once}
use Rattle.rma_concurrent.proofs.OrderLemmas.{lock_is_order}
use Rattle.rma_concurrent.proofs.laws.exposed_locks_are_one_list.Goals as goal

pub returns : goal.returns
returns c = λ links windows spans list other one two. all_once lock_order lock_is_order (IsExposed links windows spans) list other one two
