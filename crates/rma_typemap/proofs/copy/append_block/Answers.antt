use Rattle.std.proofs.Common.{◌^◌, ◌+◌, arith}
use Rattle.rma_typemap.proofs.Words.{displaced}
use Rattle.rma_typemap.proofs.NearLemmas.{near_wider, IsNearby_wider, IsNearby_displaced, IsNearby_joined, IsSound_displaced, IsSound_joined}
use Rattle.rma_typemap.proofs.WideLemmas.{near_kept}
use Rattle.rma_typemap.proofs.copy.append_block.Goals as goal

pub displace-requires-clause-near : goal.displace-requires-clause-near
displace-requires-clause-near c = IsNearby_wider (2 ^ 82) (2 ^ 120) c.contiguous-block.result (omega arith) c.contiguous-block.ensures.result_near

pub join-requires-clause-second_sound : goal.join-requires-clause-second_sound
join-requires-clause-second_sound c = rw c.displace.ensures (IsSound_displaced _ c.contiguous-block.result c.contiguous-block.ensures.result_sound)

pub returns-clause-result_near : goal.returns-clause-result_near
returns-clause-result_near c =
    let block = c.contiguous-block.result in
    let at = c.args.at in
    let same = near_kept at (near_wider (2 ^ 81) (2 ^ 121) at (omega arith) c.requires.at_near) in
    let moved = IsNearby_wider (2 ^ 81 + 2 ^ 82) (2 ^ 83) (displaced at block) (omega arith) (IsNearby_displaced (2 ^ 82) (2 ^ 81) at block c.requires.at_near c.contiguous-block.ensures.result_near) in
    rw (c.join.ensures, c.displace.ensures, same) (IsNearby_joined (2 ^ 83) c.args.done.now (displaced at block) c.requires.done_near moved)

pub returns-clause-result_sound : goal.returns-clause-result_sound
returns-clause-result_sound c =
    rw (c.join.ensures, c.displace.ensures) (IsSound_joined c.args.done.now _ c.requires.done_sound (IsSound_displaced _ c.contiguous-block.result c.contiguous-block.ensures.result_sound))
