use Rattle.std.proofs.Common.{◌≡◌, ◌<◌, length, refl, arith}
use Rattle.std.specs.Prelude.{slice_index}
use Rattle.std.proofs.lemmas.List.{get_or_read}
use Rattle.rma_walk.proofs.PendingLemmas.{in_ranks}
use Rattle.rma_walk.proofs.AdvanceLemmas.{advanced_one, advanced_two}
use Rattle.rma_walk.proofs.front.Front.advance.Goals as goal

pub returns-then-not-is_entry : goal.returns-then-not-is_entry
returns-then-not-is_entry c =
    let lens = c.args.run.now.lens.now in
    let rank = c.args.rank in
    let next = c.args.self.now.next.items in
    let in_lens : rank < length lens = in_ranks lens rank 0 (let more = c.requires.next in omega arith) in
    let there : rank < length next = (let size = c.requires.size in omega arith) in
    let pos = c.index-pos.result.now in
    let read : pos ≡ slice_index next rank = get_or_read next rank pos there c.index-pos.ensures 0 in
    advanced_one lens c.args.run.now.links.now rank c.args.self.now _ pos read there (let more = c.requires.next in omega arith) c.requires.ready refl c.in_ok-push_point.ensures

pub returns : goal.returns
returns c =
    let lens = c.args.run.now.lens.now in
    let rank = c.args.rank in
    let next = c.args.self.now.next.items in
    let in_lens : rank < length lens = in_ranks lens rank 0 (let more = c.requires.next in omega arith) in
    let there : rank < length next = (let size = c.requires.size in omega arith) in
    let pos = c.index-pos.result.now in
    let read : pos ≡ slice_index next rank = get_or_read next rank pos there c.index-pos.ensures 0 in
    let entry = c.is_entry.ensures c.if-not-is_entry.false in
    advanced_two lens c.args.run.now.links.now rank c.args.self.now _ pos c.push_point.new.order c.requires.run c.requires.size read there entry.0 entry.1 c.requires.ready
    c.in_ok-push_point.ensures refl c.in_ok-push_point-2.ensures
