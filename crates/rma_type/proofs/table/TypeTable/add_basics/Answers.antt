use Rattle.std.proofs.Common.{◌≡◌, length, ap, ◌∙◌, arith}
use Rattle.rma_type.proofs.Words.{Table}
use Rattle.rma_type.proofs.FirstLemmas.{table_of_basics_more, length_basics}
use Rattle.rma_type.proofs.table.TypeTable.add_basics.Goals as goal

pub add_basic-requires : goal.add_basic-requires
add_basic-requires c =
    let i = c.loop-basic.basic-index in
    let bs = c.args.basics.now in
    let count : length c.loop-basic.self.origins ≡ i = ap (λ (t : Table). length t.origins) c.loop-basic.invariant ∙ length_basics bs i (omega arith) in
    omega (arith, count, c.requires.few)

pub loop-basic-preserved : goal.loop-basic-preserved
loop-basic-preserved c =
    table_of_basics_more _ _ c.args.basics.now c.loop-basic.basic-index _ c.requires.differ c.loop-basic-test.true c.loop-basic.invariant c.in_default.ensures
