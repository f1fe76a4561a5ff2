use Rattle.std.proofs.Common.{◌≡◌, ◌<◌, ℕ, List, length, take, sym, subst, arith}
use Rattle.std.specs.Prelude.{slice_index_or}
use Rattle.std.proofs.lemmas.List.{length-take-le, take_more, take_all}
use Rattle.rma_link.specs.declared.meet.Meet.{Meet}
use Rattle.rma_walk.specs.Source.{IsMemberSource, IsMeetSource}
use Rattle.rma_walk.specs.inside.Pending.{AreAdded, no_meet}
use Rattle.rma_walk.proofs.PendingLemmas.{added_meet}
use Rattle.rma_walk.proofs.pending.add_meets.Goals as goal

pub loop-index-preserved : goal.loop-index-preserved
loop-index-preserved c =
    let meets = c.args.run.now.links.now.meets in
    let i = c.loop-index.index in
    let old = c.args.inboxes.now.items in
    let mid = c.loop-index.inboxes.items in
    let new = c.add_members.new.inboxes.items in
    let meet : Meet = slice_index_or meets i no_meet in
    let lt : i < length meets = omega (arith, c.loop-index-test.true, c.len-index-end.ensures) in
    let before : length (take i meets) ≡ i = length-take-le i meets (omega arith) in
    let P : List Meet → Type 0 = λ ms. AreAdded (IsMeetSource ms) old new in
    let Q : ℕ → Type 0 = λ k. AreAdded (IsMemberSource k meet.calls) mid new in
    subst P (sym (take_more meets i no_meet lt))
    (added_meet (take i meets) meet old mid new c.loop-index.invariant (subst Q (sym before) c.in_ok-add_members.ensures))

pub returns : goal.returns
returns c =
    let meets = c.args.run.now.links.now.meets in
    let i = c.loop-index.index in
    let P : List Meet → Type 0 = λ ms. AreAdded (IsMeetSource ms) c.args.inboxes.now.items c.loop-index.inboxes.items in
    subst P (take_all i meets (omega (arith, c.loop-index-test.false, c.len-index-end.ensures))) c.loop-index.invariant
