use Rattle.std.proofs.Common.{ℤ, ◌≤ℤ◌, ◌<ℤ◌, inl, inr, arith}
use Rattle.std.proofs.lemmas.Int.{ints, clamps, by_lt_z}
use Rattle.rma_bytes.specs.Runs.{end_of}
use Rattle.rma_bytes.proofs.run.hull.Goals as goal

pub overflow_cast-result : goal.overflow_cast-result
overflow_cast-result c = omega (arith, ints, clamps)

pub returns-clause-bounds : goal.returns-clause-bounds
returns-clause-bounds c = (omega (arith, ints, clamps), omega (arith, ints, clamps))

pub returns-clause-bytes : goal.returns-clause-bytes
returns-clause-bytes c = λ (b : ℤ). (
  λ within. by_lt_z b (end_of c.args.first)
      (λ (sooner : b <ℤ end_of c.args.first). inl (omega (arith, ints, clamps), sooner))
      (λ (later : end_of c.args.first ≤ℤ b). inr (omega (arith, ints, clamps), omega (arith, ints, clamps))),
  λ one. elim one [
    | inl here ↦ (omega (arith, ints, clamps), omega (arith, ints, clamps))
    | inr here ↦ (omega (arith, ints, clamps), omega (arith, ints, clamps))
  ],
)
