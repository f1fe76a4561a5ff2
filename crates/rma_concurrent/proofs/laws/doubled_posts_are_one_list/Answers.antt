use Rattle.rma_concurrent.specs.Concurrent.{IsDoubled, post_order}
use Rattle.rma_concurrent.proofs.ListLemmas.{all_once}
use Rattle.rma_concurrent.proofs.OrderLemmas.{post_is_order}
use Rattle.rma_concurrent.proofs.laws.doubled_posts_are_one_list.Goals as goal

pub returns : goal.returns
returns c = λ windows spans list other one two. all_once post_order post_is_order (IsDoubled windows spans) list other one two
