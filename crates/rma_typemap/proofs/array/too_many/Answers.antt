use Rattle.std.proofs.Common.{◌*◌, ◌-◌, length, sym, arith}
use Rattle.rma_typemap.proofs.Words.{mul-le-mul_right, Decides-ltb, element_limit, cuts_of, part_of_cuts}
use Rattle.rma_typemap.proofs.ArrayLemmas.{AreCuts_cuts_of, next_rest, rest_is_less}
use Rattle.rma_typemap.proofs.array.too_many.Goals as goal

pub returns-then-total-gt-ELEMENTS : goal.returns-then-total-gt-ELEMENTS
returns-then-total-gt-ELEMENTS c =
    let cs = cuts_of c.args.order c.args.dimensions.now in
    let le = mul-le-mul_right c.args.entries (rest_is_less cs (length c.args.dimensions.now - c.loop-k.k) (AreCuts_cuts_of c.args.order c.args.dimensions.now c.requires.parts)).1 in
    sym ((Decides-ltb element_limit (part_of_cuts cs * c.args.entries)).1 (omega (arith, le, c.loop-k.invariant)))

pub loop-k-preserved : goal.loop-k-preserved
loop-k-preserved c =
    rw (c.loop-k.invariant, next_rest c.args.order c.args.dimensions.now c.loop-k.k c.nth_fastest-total.result (omega arith) c.nth_fastest-total.ensures.value) (omega arith)
