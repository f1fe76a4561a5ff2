use Rattle.std.proofs.Common.{ℕ, ◌≤◌, ◌<◌, ◌*◌, Fits, w64, arith}
use Rattle.std.proofs.Math.Nat.{mul-le-mul}
use Rattle.rma_buffer.proofs.rule.entries.Goals as goal

product_fits : (a b : ℕ) → a < 4294967296 → b ≤ 67108864 → Fits w64 (a * b)
product_fits a b h k =
    let below : a ≤ 4294967296 = omega arith in
    let most : a * b ≤ 4294967296 * 67108864 = mul-le-mul {m₁ = b} below k in
    omega arith

pub overflow_mul-result : goal.overflow_mul-result
overflow_mul-result c = product_fits c.from.result c.entries.result (omega arith) (omega (arith, c.entries.ensures.few))
