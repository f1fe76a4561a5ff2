use Rattle.std.proofs.Common.{◌≡◌, ◌+◌, ◌-◌, ◌<◌, ◌≤◌, length, arith}
use Rattle.std.proofs.lemmas.Option.{slice_get-get_or}
use Rattle.rma_concurrent.specs.Concurrent.{IsExposedBy}
use Rattle.rma_concurrent.proofs.EpochLemmas.{all_asked, rest_over}
use Rattle.rma_concurrent.proofs.ListLemmas.{from_less, from_none}
use Rattle.rma_concurrent.proofs.exposed.add_group.Goals as goal

pub back-init : goal.back-init
back-init g c =
    let middle = c.begun_before_unlock-last.result in
    record {
      from = c.begun_before_unlock-last.ensures.bounds.0;
      to = omega arith;
      more = λ points links are locked exposed. from_none (IsExposedBy links c.args.windows.now c.args.lock.now) c.args.list.now middle middle c.args.found.now.items (omega arith);
    }

pub returns-then-is_over_before : goal.returns-then-is_over_before
returns-then-is_over_before g c = λ points links are locked exposed.
    let list = c.args.list.now in
    let last = c.back.last in
    let i = last - 1 in
    let middle = c.begun_before_unlock-last.result in
    let test = c.back-test.true in
    let bounds = c.requires.bounds in
    let below = c.begun_before_unlock-last.ensures.bounds in
    let to = c.back.invariant.to in
    let within : i < length list = omega arith in
    let next : last ≡ i + 1 = omega arith in
    let from : c.args.first ≤ i = omega arith in
    rest_over links c.args.lock.now list c.requires.rise c.args.first c.args.behind c.requires.beside c.args.windows.now middle (c.begun_before_unlock-last.ensures.after points links are locked exposed) c.args.found.now.items
    c.back.found.items (c.requires.closes c.if-rise.true) last i _ next from below.1 to (slice_get-get_or list i _ within)
    ((c.is_over_before.ensures points links are locked (exposed i _ within)).0 c.if-is_over_before.true) (c.back.invariant.more points links are locked exposed)

pub back-preserved : goal.back-preserved
back-preserved g c =
    let list = c.args.list.now in
    let last = c.back.last in
    let i = last - 1 in
    let middle = c.begun_before_unlock-last.result in
    let test = c.back-test.true in
    let bounds = c.requires.bounds in
    let below = c.begun_before_unlock-last.ensures.bounds in
    let to = c.back.invariant.to in
    let within : i < length list = omega arith in
    record {
      from = omega arith;
      to = omega arith;
      more = λ points links are locked exposed.
          from_less (IsExposedBy links c.args.windows.now c.args.lock.now) list i last middle _ c.args.found.now.items c.back.found.items c.add_pair.new.found.items (omega arith) (omega arith)
          (slice_get-get_or list i _ within) (c.back.invariant.more points links are locked exposed) (c.in_ok-add_pair.ensures points links are locked (exposed i _ within));
    }

pub returns : goal.returns
returns g c = λ points links are locked exposed.
    all_asked links c.args.lock.now c.args.list.now c.requires.rise c.args.first c.args.behind c.requires.beside c.args.windows.now c.begun_before_unlock-last.result
    (c.begun_before_unlock-last.ensures.after points links are locked exposed) c.args.found.now.items c.back.found.items c.back.last c.back-test.false c.back.invariant.from c.begun_before_unlock-last.ensures.bounds.1
    (c.back.invariant.more points links are locked exposed)
