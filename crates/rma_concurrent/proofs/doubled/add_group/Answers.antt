use Rattle.std.proofs.Common.{◌≡◌, ◌+◌, ◌-◌, ◌<◌, ◌≤◌, length, sym, ◌∙◌, arith}
use Rattle.std.proofs.lemmas.Option.{slice_get-get_or}
use Rattle.rma_concurrent.specs.Concurrent.{IsDoubledBy}
use Rattle.rma_concurrent.proofs.EpochLemmas.{all_posts_asked, rest_closed}
use Rattle.rma_concurrent.proofs.ListLemmas.{from_less, from_none}
use Rattle.rma_concurrent.proofs.doubled.add_group.Goals as goal

pub back-init : goal.back-init
back-init c =
    let middle = c.begun_before-last.result in
    record {
      from = c.begun_before-last.ensures.bounds.0;
      to = omega arith;
      more = from_none (IsDoubledBy c.args.windows.now c.args.post.now) c.args.list.now middle middle c.args.found.now.items (omega arith);
    }

pub returns-then-is_by : goal.returns-then-is_by
returns-then-is_by c =
    let list = c.args.list.now in
    let last = c.back.last in
    let i = last - 1 in
    let middle = c.begun_before-last.result in
    let test = c.back-test.true in
    let bounds = c.requires.bounds in
    let below = c.begun_before-last.ensures.bounds in
    let to = c.back.invariant.to in
    let within : i < length list = omega arith in
    let next : last ≡ i + 1 = omega arith in
    let from : c.args.first ≤ i = omega arith in
    rest_closed c.args.post.now list c.requires.rise c.args.first c.args.behind c.requires.beside c.args.windows.now middle c.begun_before-last.ensures.after c.args.found.now.items c.back.found.items
    (c.requires.closes c.if-rise.true) last i _ next from below.1 to (slice_get-get_or list i _ within) (sym c.is_by.ensures ∙ c.if-is_by.true) c.back.invariant.more

pub back-preserved : goal.back-preserved
back-preserved c =
    let list = c.args.list.now in
    let last = c.back.last in
    let i = last - 1 in
    let middle = c.begun_before-last.result in
    let test = c.back-test.true in
    let bounds = c.requires.bounds in
    let below = c.begun_before-last.ensures.bounds in
    let to = c.back.invariant.to in
    let within : i < length list = omega arith in
    record {
      from = omega arith;
      to = omega arith;
      more = from_less (IsDoubledBy c.args.windows.now c.args.post.now) list i last middle _ c.args.found.now.items c.back.found.items c.add_pair.new.found.items (omega arith) (omega arith) (slice_get-get_or list i _ within)
          c.back.invariant.more c.in_ok-add_pair.ensures;
    }

pub returns : goal.returns
returns c =
    all_posts_asked c.args.post.now c.args.list.now c.requires.rise c.args.first c.args.behind c.requires.beside c.args.windows.now c.begun_before-last.result c.begun_before-last.ensures.after c.args.found.now.items
    c.back.found.items c.back.last c.back-test.false c.back.invariant.from c.begun_before-last.ensures.bounds.1 c.back.invariant.more
