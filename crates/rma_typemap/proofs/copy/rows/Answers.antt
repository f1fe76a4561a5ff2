use Rattle.std.proofs.Common.{◌^◌, arith}
use Rattle.rma_typemap.proofs.NearLemmas.{IsNearby_wider}
use Rattle.rma_typemap.proofs.WideLemmas.{wide_product}
use Rattle.rma_typemap.proofs.copy.rows.Goals as goal

pub repeat-requires-clause-near : goal.repeat-requires-clause-near
repeat-requires-clause-near c = IsNearby_wider (2 ^ 82) (2 ^ 120) c.contiguous.result (omega arith) c.contiguous.ensures.result_near

pub repeat-requires-clause-distance_near : goal.repeat-requires-clause-distance_near
repeat-requires-clause-distance_near c =
    wide_product (2 ^ 31) (2 ^ 81) c.args.count c.args.stride (omega arith) c.requires.stride_near (omega arith) (omega arith)
