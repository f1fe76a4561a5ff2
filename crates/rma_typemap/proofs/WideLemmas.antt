-- Numbers that are near keep their value in 128 bits.
use Rattle.std.proofs.Common.{◌≡◌, ℕ, ◌^◌, ◌≤◌, ◌*◌, ℤ, pos, ◌+ℤ◌, ◌*ℤ◌, arith, to_z, of_z}
use Rattle.rma_typemap.proofs.Words.{w64, w128, ints, IsNear}
use Rattle.rma_typemap.proofs.NearLemmas.{near_wider, near_count}

pub near_kept : (x : ℤ) → IsNear (2 ^ 121) x → to_z w128 (of_z w128 x) ≡ x
near_kept x h = omega (arith, ints)

pub near_more : (x : ℤ) → IsNear (2 ^ 120) x → IsNear (2 ^ 121) x
near_more x h = record { low = omega (arith, ints); high = omega (arith, ints) }

pub sum_kept : (x y : ℤ) → IsNear (2 ^ 120) x → IsNear (2 ^ 120) y → to_z w128 (of_z w128 (to_z w128 (of_z w128 x) +ℤ to_z w128 (of_z w128 y))) ≡ x +ℤ y
sum_kept x y h k = rw (near_kept x (near_more x h), near_kept y (near_more y k)) (near_kept (x +ℤ y) (record { low = omega (arith, ints); high = omega (arith, ints) }))

-- a multiple of a number that is near
pub wide_product : (m n k : ℕ) (y : ℤ) → k ≤ m → IsNear n y → n ≤ 2 ^ 121 → m * n ≤ 2 ^ 120 → IsNear (2 ^ 120) (pos k *ℤ to_z w128 (of_z w128 y))
wide_product m n k y few near small fits =
    rw (near_kept y (near_wider n (2 ^ 121) y small near)) (near_wider (m * n) (2 ^ 120) (pos k *ℤ y) fits (near_count m n k y few near))

-- a number that is near keeps its value in 64 bits too
pub narrow_kept : (x : ℤ) → IsNear (2 ^ 50) x → to_z w64 (of_z w64 (to_z w128 (of_z w128 x))) ≡ x
narrow_kept x h = rw (near_kept x (near_wider (2 ^ 50) (2 ^ 121) x (omega arith) h)) (omega (arith, ints))
