use Rattle.std.proofs.Common.{◌^◌, ◌*◌, ◌+◌, arith}
use Rattle.rma_typemap.proofs.Words.{address_limit}
use Rattle.rma_typemap.proofs.NearLemmas.{near_wider, near_count, IsNearby_wider, IsNearby_repeated, IsSound_repeated}
use Rattle.rma_typemap.proofs.WideLemmas.{wide_product, near_kept}
use Rattle.rma_typemap.proofs.copy.contiguous.Goals as goal

pub repeat-requires-clause-distance_near : goal.repeat-requires-clause-distance_near
repeat-requires-clause-distance_near c = wide_product (2 ^ 31) (2 ^ 50) c.args.count c.extent.result (omega arith) c.extent.ensures.near (omega arith) (omega arith)

pub returns-clause-result_near : goal.returns-clause-result_near
returns-clause-result_near c =
    let e = c.extent.result in
    let same = near_kept e (near_wider (2 ^ 50) (2 ^ 121) e (omega arith) c.extent.ensures.near) in
    rw (c.repeat.ensures, same)
    (IsNearby_wider (address_limit + 2 ^ 31 * 2 ^ 50) (2 ^ 82) _ (omega arith)
    (IsNearby_repeated address_limit (2 ^ 31 * 2 ^ 50) c.args.count e c.args.old.now (near_count (2 ^ 31) (2 ^ 50) c.args.count e (omega arith) c.extent.ensures.near) c.requires.near))

pub returns-clause-result_sound : goal.returns-clause-result_sound
returns-clause-result_sound c = rw c.repeat.ensures (IsSound_repeated c.args.count _ c.args.old.now c.requires.sound)
