use Rattle.std.proofs.Common.{◌+◌, ◌-◌, length, arith}
use Rattle.rma_typemap.proofs.Words.{cuts_of}
use Rattle.rma_typemap.proofs.ArrayLemmas.{AreCuts_cuts_of, next_rest, rest_is_less}
use Rattle.rma_typemap.proofs.array.whole.Goals as goal

pub overflow_mul-total : goal.overflow_mul-total
overflow_mul-total c =
    let shape = next_rest c.args.order c.args.dimensions.now c.loop-k.k c.nth_fastest-total.result (omega arith) c.nth_fastest-total.ensures.value in
    let le = (rest_is_less (cuts_of c.args.order c.args.dimensions.now) (length c.args.dimensions.now - (c.loop-k.k + 1)) (AreCuts_cuts_of c.args.order c.args.dimensions.now c.requires.parts)).0 in
    rw c.loop-k.invariant (omega (arith, rw shape at le, c.requires.small))

pub loop-k-preserved : goal.loop-k-preserved
loop-k-preserved c =
    rw (c.loop-k.invariant, next_rest c.args.order c.args.dimensions.now c.loop-k.k c.nth_fastest-total.result (omega arith) c.nth_fastest-total.ensures.value) (omega arith)
