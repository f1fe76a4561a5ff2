use Rattle.std.proofs.Common.{◌^◌, ◌+◌, pos, ◌*ℤ◌, arith}
use Rattle.rma_typemap.proofs.NearLemmas.{near_at_most, near_wider, IsNearby_wider, IsNearby_repeated}
use Rattle.rma_typemap.proofs.WideLemmas.{near_kept}
use Rattle.rma_typemap.proofs.array.row.Goals as goal

pub displace-requires-clause-near : goal.displace-requires-clause-near
displace-requires-clause-near c =
    let s = c.args.stride in
    let w = c.requires.fits.within in
    let same = near_kept s (near_wider (2 ^ 99) (2 ^ 121) s (omega arith) c.requires.stride_near) in
    rw (c.repeat-rows.ensures, same)
    (IsNearby_wider (2 ^ 100 + 2 ^ 99) (2 ^ 120) _ (omega arith)
    (IsNearby_repeated (2 ^ 100) (2 ^ 99) c.args.cut.part s c.args.part.now (near_at_most (2 ^ 99) c.args.cut.part c.args.cut.whole s (omega arith) c.requires.distance_near) c.requires.near))

pub displace-requires-clause-by_near : goal.displace-requires-clause-by_near
displace-requires-clause-by_near c =
    let s = c.args.stride in
    let d = pos c.args.cut.start *ℤ s in
    let w = c.requires.fits.within in
    let same = near_kept s (near_wider (2 ^ 99) (2 ^ 121) s (omega arith) c.requires.stride_near) in
    let near = near_at_most (2 ^ 99) c.args.cut.start c.args.cut.whole s (omega arith) c.requires.distance_near in
    let kept = near_kept d (near_wider (2 ^ 99) (2 ^ 121) d (omega arith) near) in
    rw (c.product.ensures, same, kept) (near_wider (2 ^ 99) (2 ^ 120) d (omega arith) near)
