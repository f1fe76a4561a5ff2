use Rattle.rma_concurrent.proofs.ListLemmas.{all_once}
use Rattle.rma_assert.specs.Broken.{IsBroken, IsFirst, assertion_order}
use Rattle.rma_assert.proofs.OrderLemmas.{assertion_is_order}
use Rattle.rma_assert.proofs.laws.broken_assertions_are_one_list.Goals as goal

pub returns : goal.returns
returns c = λ links ranks spans list other one two. all_once assertion_order assertion_is_order (IsFirst (IsBroken links ranks spans)) list other one two
