use Rattle.rma_order.proofs.SameLinks.{link_back, one_order, order_same, possible_same}
use Rattle.rma_order.proofs.laws.links_that_link_the_same_give_one_order.Goals as goal

pub returns-clause-order : goal.returns-clause-order
returns-clause-order c = one_order

pub returns-clause-possible : goal.returns-clause-possible
returns-clause-possible c links others same = (possible_same links others same, possible_same others links (link_back links others same))

pub returns-clause-lists : goal.returns-clause-lists
returns-clause-lists c links others same lens list = (order_same links others same lens list, order_same others links (link_back links others same) lens list)
