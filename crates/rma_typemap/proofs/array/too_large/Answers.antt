use Rattle.std.proofs.Common.{◌-◌, ◌^◌, length, sym, arith}
use Rattle.std.proofs.lemmas.Nat.{mul-le}
use Rattle.rma_typemap.proofs.Words.{Decides-ltb, address_limit, cuts_of, whole_of_cuts}
use Rattle.rma_typemap.proofs.ArrayLemmas.{AreCuts_cuts_of, next_rest, rest_is_less}
use Rattle.rma_typemap.proofs.array.too_large.Goals as goal

pub returns-then-total-gt-SPACE : goal.returns-then-total-gt-SPACE
returns-then-total-gt-SPACE c =
    let cs = cuts_of c.args.order c.args.dimensions.now in
    let le = (rest_is_less cs (length c.args.dimensions.now - c.loop-k.k) (AreCuts_cuts_of c.args.order c.args.dimensions.now c.requires.parts)).0 in
    sym ((Decides-ltb address_limit (whole_of_cuts cs)).1 (omega (arith, le, c.loop-k.invariant)))

pub overflow_mul-total : goal.overflow_mul-total
overflow_mul-total c =
    let small = c.nth_fastest.ensures.sound.small in
    let le = mul-le c.loop-k.total c.nth_fastest.result.whole address_limit (2 ^ 31) (omega arith) (omega arith) in
    rw c.from-total.ensures (omega (arith, le))

pub loop-k-preserved : goal.loop-k-preserved
loop-k-preserved c =
    rw (c.from-total.ensures, c.loop-k.invariant, next_rest c.args.order c.args.dimensions.now c.loop-k.k c.nth_fastest.result (omega arith) c.nth_fastest.ensures.value) (omega arith)
