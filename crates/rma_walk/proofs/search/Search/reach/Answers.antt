use Rattle.std.proofs.Common.{rules, ◌<◌, ◌*◌, refl}
use Rattle.std.specs.Prelude.{slice_index}
use Rattle.rma_walk.proofs.AheadLemmas.{ahead_then, advanced_ahead, advanced_less}
use Rattle.rma_walk.proofs.search.Search.reach.Goals as goal

pub loop-point-smaller : goal.loop-point-smaller
loop-point-smaller c =
    let lens = c.args.run.now.lens.now in
    let links = c.args.run.now.links.now in
    let now = c.loop-point.self in
    let rank = c.args.point.rank.0 in
    let ahead = c.loop-point.invariant.ahead in
    let has_next : slice_index now.front.next.items rank < 2 * slice_index lens rank = search rules in
    advanced_less lens links c.args.current now _ rank ahead.walk (c.is_ready.ensures.free c.if-not-is_ready.false) c.if-rank-current.false has_next c.in_ok-advance.ensures refl refl refl

pub loop-point-preserved : goal.loop-point-preserved
loop-point-preserved c =
    let lens = c.args.run.now.lens.now in
    let links = c.args.run.now.links.now in
    let now = c.loop-point.self in
    let rank = c.args.point.rank.0 in
    let ahead = c.loop-point.invariant.ahead in
    let has_next : slice_index now.front.next.items rank < 2 * slice_index lens rank = search rules in
    record {
      ahead = ahead_then lens links c.args.current c.args.self.now now _ ahead
          (advanced_ahead lens links c.args.current now _ rank ahead.walk (c.is_ready.ensures.free c.if-not-is_ready.false) c.if-rank-current.false has_next c.in_ok-advance.ensures refl refl refl);
      pending = c.loop-point.invariant.pending;
    }
