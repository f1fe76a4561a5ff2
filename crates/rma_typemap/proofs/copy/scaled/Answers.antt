use Rattle.std.proofs.Common.{◌^◌, ◌*◌, ◌*ℤ◌, arith}
use Rattle.rma_typemap.proofs.Words.{w32, ints, to_z-of_z, IsNear}
use Rattle.rma_typemap.proofs.NearLemmas.{near_wider, near_mul}
use Rattle.rma_typemap.proofs.WideLemmas.{near_kept}
use Rattle.rma_typemap.proofs.copy.scaled.Goals as goal

pub returns-clause-near : goal.returns-clause-near
returns-clause-near c =
    let x = c.args.displacement in
    let y = c.args.extent in
    let fits = to_z-of_z w32 x c.ranges.displacement in
    let small : IsNear (2 ^ 31) x = record { low = omega (arith, ints); high = omega (arith, ints) } in
    let near = near_wider (2 ^ 31 * 2 ^ 50) (2 ^ 81) (x *ℤ y) (omega arith) (near_mul (2 ^ 31) (2 ^ 50) x y small c.requires) in
    let kept_x = near_kept x (near_wider (2 ^ 31) (2 ^ 121) x (omega arith) small) in
    let kept_y = near_kept y (near_wider (2 ^ 50) (2 ^ 121) y (omega arith) c.requires) in
    let kept = near_kept (x *ℤ y) (near_wider (2 ^ 81) (2 ^ 121) (x *ℤ y) (omega arith) near) in
    rw (c.from.ensures, fits, kept_x, kept_y, kept) near
