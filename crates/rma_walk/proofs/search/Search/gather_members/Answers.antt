use Rattle.std.proofs.Common.{◌≡◌, ◌+◌, ◌<◌, ◌^◌, List, length, Some, sym, subst, refl, ap, ◌∙◌, arith}
use Rattle.std.specs.Prelude.{slice_get, slice_index, slice_index_or}
use Rattle.std.proofs.lemmas.List.{get_or_read, get_or-set_same}
use Rattle.std.proofs.lemmas.Option.{slice_get_read}
use Rattle.rma_base.specs.declared.point.Point.{Point}
use Rattle.rma_link.specs.declared.meet.Member.{Member}
use Rattle.rma_link.specs.declared.meet.Meet.{Meet}
use Rattle.rma_link.specs.Point.{entry, IsPoint}
use Rattle.rma_walk.specs.inside.Run.{IsPassed}
use Rattle.rma_walk.specs.inside.Pending.{no_meet}
use Rattle.rma_walk.proofs.PendingLemmas.{in_ranks, no_member, member_within}
use Rattle.rma_walk.proofs.BlockerLemmas.{readable_of}
use Rattle.rma_walk.proofs.AheadLemmas.{ahead_then, known_ahead}
use Rattle.rma_walk.proofs.search.Search.gather_members.Goals as goal

pub overflow_cast-member-end : goal.overflow_cast-member-end
overflow_cast-member-end c =
    let links = c.args.run.now.links.now in
    let read : c.get.result.now ≡ slice_index_or links.meets c.args.index no_meet = get_or_read links.meets c.args.index c.get.result.now c.requires.index c.get.ensures no_meet in
    let size : length c.as_slice-members.result.now ≡ length (slice_index_or links.meets c.args.index no_meet).calls = ap length c.as_slice-members.ensures ∙ ap (λ (t : Meet). length t.calls) read in
    let few : length (slice_index_or links.meets c.args.index no_meet).calls < 2 ^ 32 = (readable_of c.args.run.now.lens.now links (length c.args.run.now.lens.now) c.requires.walk.run refl).sizes c.args.index no_meet c.requires.index in
    omega arith

pub entry-requires : goal.entry-requires
entry-requires c =
    let lens = c.args.run.now.lens.now in
    let links = c.args.run.now.links.now in
    let run = c.requires.walk.run in
    let m : Member = slice_index_or c.as_slice-members.result.now c.loop-member.member no_member in
    let ok : m.call < slice_index lens m.rank.0 = member_within lens links c.args.index c.get.result.now c.as_slice-members.result.now run.within c.requires.index
    c.get.ensures c.as_slice-members.ensures c.loop-member.member (omega (arith, c.loop-member-test.true)) in
    let there : m.rank.0 < length lens = in_ranks lens m.rank.0 m.call ok in
    let bound : slice_index lens m.rank.0 < 2 ^ 31 = run.calls m.rank.0 0 there in
    omega arith

pub reach-requires-clause-point : goal.reach-requires-clause-point
reach-requires-clause-point c =
    let lens = c.args.run.now.lens.now in
    let links = c.args.run.now.links.now in
    let run = c.requires.walk.run in
    let m : Member = slice_index_or c.as_slice-members.result.now c.loop-member.member no_member in
    let ok : m.call < slice_index lens m.rank.0 = member_within lens links c.args.index c.get.result.now c.as_slice-members.result.now run.within c.requires.index
    c.get.ensures c.as_slice-members.ensures c.loop-member.member (omega (arith, c.loop-member-test.true)) in
    let point : IsPoint lens (entry m.rank m.call) = omega arith in
    subst (IsPoint lens) (sym c.entry.ensures) point

pub loop-member-preserved : goal.loop-member-preserved
loop-member-preserved c =
    let lens = c.args.run.now.lens.now in
    let links = c.args.run.now.links.now in
    let index = c.args.index in
    let member = c.loop-member.member in
    let members = c.as_slice-members.result.now in
    let now = c.reach.new.self in
    let one = ahead_then lens links c.args.current c.args.self.now c.loop-member.self now c.loop-member.invariant.ahead c.in_ok-reach.ensures.ahead in
    let at : slice_get links.meets index ≡ Some c.get.result.now = slice_get_read links.meets (length links.meets) index c.get.result.now refl c.requires.index c.get.ensures in
    let small : member < length members = omega (arith, c.loop-member-test.true) in
    let lt : member < length c.get.result.now.calls = (let size = ap length c.as_slice-members.ensures in omega arith) in
    let known : slice_index now.pending.known.items index ≡ member = ap (λ pending. slice_index pending.known.items index) c.in_ok-reach.ensures.pending ∙ c.loop-member.invariant.known in
    let P : Point → Type 0 = IsPassed now.front.next.items in
    let Q : List Member → Type 0 = λ ms. P (entry (slice_index_or ms member no_member).rank (slice_index_or ms member no_member).call) in
    let passed = subst Q c.as_slice-members.ensures (subst P c.entry.ensures (c.in_ok-reach.ensures.passed c.if-not-branch.false)) in
    let there : index < length now.pending.known.items = (let size = one.walk.pending.known.size in let lt_meets = c.requires.index in omega arith) in
    record {
      ahead = ahead_then lens links c.args.current c.args.self.now now _ one
          (known_ahead lens links c.args.current now _ index member c.get.result.now one.walk at lt known passed refl refl refl refl refl);
      inboxes = ap (λ pending. pending.inboxes) c.in_ok-reach.ensures.pending ∙ c.loop-member.invariant.inboxes;
      known = get_or-set_same now.pending.known.items index (member + 1) 0 there;
    }
