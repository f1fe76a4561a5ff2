use Rattle.std.proofs.Common.{◌^◌, pos, ◌*ℤ◌, subst, Some}
use Rattle.rma_typemap.proofs.Words.{BlocksAreNear}
use Rattle.rma_typemap.proofs.WideLemmas.{sum_kept, near_kept, near_more}
use Rattle.rma_typemap.proofs.blocks.repeated.Goals as goal

pub returns-in-Some : goal.returns-in-Some
returns-in-Some c =
    let a = c.in-Some.a in
    let stride = c.args.stride in
    let near : BlocksAreNear (2 ^ 120) (Some a) = subst (BlocksAreNear (2 ^ 120)) c.in-Some.is c.requires.near in
    let same = near_kept stride (near_more stride c.requires.stride_near) in
    let first = near_kept a.first (near_more a.first near.0) in
    let end = near_kept a.last (near_more a.last near.1) in
    let at = sum_kept a.first stride near.0 c.requires.stride_near in
    let last = sum_kept a.last (pos c.args.n *ℤ stride) near.1 c.requires.distance_near in
    cc
