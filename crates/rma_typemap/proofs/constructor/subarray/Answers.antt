use Rattle.std.proofs.Common.{◌^◌, arith}
use Rattle.rma_typemap.proofs.Words.{address_limit}
use Rattle.rma_typemap.proofs.WideLemmas.{wide_product}
use Rattle.rma_typemap.proofs.constructor.subarray.Goals as goal

pub product-requires : goal.product-requires
product-requires c =
    let small = c.requires.small in
    let whole = c.whole-whole.ensures in
    wide_product address_limit (2 ^ 50) c.whole-whole.result c.extent-extent.result (omega (arith, whole, small)) c.extent-extent.ensures.near (omega arith) (omega arith)
