use Rattle.rma_concurrent.proofs.ListLemmas.{IfOk_map, in_order_of}
use Rattle.rma_concurrent.proofs.order.in_order.Goals as goal

pub returns : goal.returns
returns g c = λ is. IfOk_map c.each_once.result (λ out so. in_order_of g.T.Reported.order is c.args.found.items c.sort.new.found.items out.items c.sort.ensures.permutation so) (c.each_once.ensures is (c.sort.ensures.sorted is))
