use Rattle.std.proofs.Common.{◌^◌, ◌-ℤ◌, arith}
use Rattle.rma_typemap.proofs.Words.{address_limit, ints}
use Rattle.rma_typemap.proofs.NearLemmas.{near_wider}
use Rattle.rma_typemap.proofs.WideLemmas.{near_kept, narrow_kept}
use Rattle.rma_typemap.proofs.summary.Summary.made.Goals as goal

pub returns : goal.returns
returns c =
    let low = c.low_end-low.result in
    let high = c.high_end-high.result in
    let low_near = near_wider address_limit (2 ^ 49) low (omega arith) c.low_end-low.ensures.near in
    let high_near = c.high_end-high.ensures.near in
    let kept_low = near_kept low (near_wider (2 ^ 49) (2 ^ 121) low (omega arith) low_near) in
    let kept_high = near_kept high (near_wider (2 ^ 49) (2 ^ 121) high (omega arith) high_near) in
    let lb = narrow_kept low (near_wider (2 ^ 49) (2 ^ 50) low (omega arith) low_near) in
    let ub = narrow_kept high (near_wider (2 ^ 49) (2 ^ 50) high (omega arith) high_near) in
    let extent = narrow_kept (high -ℤ low) (record { low = omega (arith, ints); high = omega (arith, ints) }) in
    rw (c.solid.ensures, lb, ub, kept_low, kept_high, extent, c.block_count.ensures, c.low_end-low.ensures.value, c.high_end-high.ensures.value)
