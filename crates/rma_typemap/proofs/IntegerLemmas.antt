-- Facts on integers.
use borrow.Author.Differences.{up, down}
use Rattle.std.proofs.Common.{◌*◌, ◌+◌, ◌≡◌, ℕ, suc, ℤ, pos, ◌+ℤ◌, ◌*ℤ◌, ap, arith}
use Rattle.rma_typemap.proofs.Words.{ints}

pub distribute : (a b e : ℤ) → (a +ℤ b) *ℤ e ≡ a *ℤ e +ℤ b *ℤ e
distribute a b e =
    let sum : up (a +ℤ b) + down a + down b ≡ down (a +ℤ b) + up a + up b = omega (arith, ints) in
    omega (arith, ints, ap (λ k. k * up e) sum, ap (λ k. k * down e) sum)

pub one_more : (n : ℕ) (s : ℤ) → pos (suc n) *ℤ s ≡ s +ℤ pos n *ℤ s
one_more n s = omega (arith, ints)

pub mul_assoc : (a b c : ℤ) → (a *ℤ b) *ℤ c ≡ a *ℤ (b *ℤ c)
mul_assoc a b c =
    let left : up (a *ℤ b) + up a * down b + down a * up b ≡ down (a *ℤ b) + up a * up b + down a * down b = omega (arith, ints) in
    let right : up (b *ℤ c) + up b * down c + down b * up c ≡ down (b *ℤ c) + up b * up c + down b * down c = omega (arith, ints) in
    omega (arith, ints, ap (λ k. k * up c) left, ap (λ k. k * down c) left, ap (λ k. up a * k) right, ap (λ k. down a * k) right)
