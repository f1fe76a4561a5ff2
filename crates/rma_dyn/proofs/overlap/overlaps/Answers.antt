use Rattle.std.proofs.Common.{◌<◌, subst}
use Rattle.rma_concurrent.proofs.ListLemmas.{contained}
use Rattle.rma_dyn.proofs.OverlapLemmas.{meets_live}
use Rattle.rma_dyn.proofs.overlap.overlaps.Goals as goal

pub returns : goal.returns
returns c =
    let list = c.args.list.now in
    let g = c.args.attach.now in
    let x = c.args.other.now in
    let beside = c.is_beside.ensures.0 c.if-not-is_beside.false in
    let behind = subst (λ n. g.address < n) c.end_of.ensures c.if-end_of-attach.false in
    (λ test. meets_live list g x c.args.size c.requires.attaches (contained list c.args.index x c.requires.place) beside behind c.if-attach-size.false (c.is_live.ensures.0 test), λ meets. c.is_live.ensures.1 meets.live)
