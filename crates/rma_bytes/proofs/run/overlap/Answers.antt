use Rattle.std.proofs.Common.{ℤ, arith}
use Rattle.std.proofs.lemmas.Int.{ints, clamps}
use Rattle.rma_bytes.proofs.run.overlap.Goals as goal

pub overflow_sub-last : goal.overflow_sub-last
overflow_sub-last c = omega (arith, ints, clamps)

pub returns-clause-bounds : goal.returns-clause-bounds
returns-clause-bounds c = (omega (arith, ints, clamps), omega (arith, ints, clamps))

pub returns-clause-bytes : goal.returns-clause-bytes
returns-clause-bytes c = λ (b : ℤ). (
  λ within. ((omega (arith, ints, clamps), omega (arith, ints, clamps)), (omega (arith, ints, clamps), omega (arith, ints, clamps))),
  λ both. (omega (arith, ints, clamps), omega (arith, ints, clamps)),
)
