use Rattle.std.proofs.Common.{◌≡◌, sym, ap, arith, of_z}
use Rattle.rma_typemap.proofs.Words.{w128, ints}
use Rattle.rma_typemap.proofs.BlocksLemmas.{gap_same, gap_other}
use Rattle.rma_typemap.proofs.blocks.gap_between.Goals as goal

pub returns-then-start-end-clause-value : goal.returns-then-start-end-clause-value
returns-then-start-end-clause-value c =
    let same : c.args.start ≡ c.args.end = omega (arith, ints) in
    sym (gap_same c.args.end c.args.start same)

pub returns-else-start-end-clause-value : goal.returns-else-start-end-clause-value
returns-else-start-end-clause-value c = sym (gap_other c.args.end c.args.start (λ same. c.if-start-end.false (ap (of_z w128) same)))
