use Rattle.std.proofs.Common.{pos, ◌*ℤ◌}
use Rattle.rma_typemap.proofs.WideLemmas.{near_kept, near_more}
use Rattle.rma_typemap.proofs.summary.extended.Goals as goal

pub returns : goal.returns
returns c =
    let distance = pos c.args.n *ℤ c.args.stride in
    let same = near_kept c.args.stride (near_more c.args.stride c.requires.stride_near) in
    let kept = near_kept distance (near_more distance c.requires.distance_near) in
    cc
