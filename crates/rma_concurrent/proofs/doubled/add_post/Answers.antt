use Rattle.std.proofs.Common.{sym, arith}
use Rattle.rma_concurrent.specs.Concurrent.{IsDoubledBy}
use Rattle.rma_concurrent.proofs.ListLemmas.{from_all, from_joined, from_none}
use Rattle.rma_concurrent.proofs.doubled.add_post.Goals as goal

pub groups-init : goal.groups-init
groups-init c =
    let start = c.range_of-start.result.0 in
    record { from = omega arith; more = from_none (IsDoubledBy c.args.windows.now c.args.post.now) c.args.list.now start start c.args.found.now.items (omega arith) }

pub groups-preserved : goal.groups-preserved
groups-preserved c =
    let start = c.range_of-start.result.0 in
    let first = c.groups.first in
    let behind = c.end_of_group-behind.result in
    let progress = c.end_of_group-behind.ensures.progress in
    let from = c.groups.invariant.from in
    record {
      from = omega arith;
      more = from_joined (IsDoubledBy c.args.windows.now c.args.post.now) c.args.list.now start first behind c.args.found.now.items c.groups.found.items c.add_group.new.found.items from (omega arith) c.groups.invariant.more
          c.in_ok-add_group.ensures;
    }

pub returns : goal.returns
returns c =
    let end = c.groups-test.false in
    from_all (IsDoubledBy c.args.windows.now c.args.post.now) c.args.list.now c.range_of-start.result.0 c.groups.first c.args.found.now.items c.groups.found.items
    (λ x k own at is. let place = c.range_of-start.ensures.all k own at is.between.window (sym is.between.target) in (place.0, omega (arith, place.1)))
    c.groups.invariant.more
