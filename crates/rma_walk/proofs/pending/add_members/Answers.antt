use Rattle.std.proofs.Common.{◌≡◌, ◌<◌, ◌++◌, List, [], ◌∷◌, length, set, take, sym, subst, ap, ◌∙◌, arith}
use Rattle.std.specs.Prelude.{slice_index, slice_index_or}
use Rattle.std.proofs.lemmas.List.{get_or_read, take_more}
use Rattle.rma_link.specs.declared.meet.Member.{Member}
use Rattle.rma_walk.specs.declared.source.Source.{Source}
use Rattle.rma_walk.specs.declared.source.Source.TheVariants.{Meet}
use Rattle.rma_walk.specs.Source.{IsMemberSource, sources_of}
use Rattle.rma_walk.specs.inside.Pending.{AreAdded}
use Rattle.rma_walk.proofs.PendingLemmas.{no_member, in_ranks, member_within, added_member}
use Rattle.rma_walk.proofs.pending.add_members.Goals as goal

pub index_mut-inbox-requires : goal.index_mut-inbox-requires
index_mut-inbox-requires c =
    let lens = c.args.run.now.lens.now in
    let m : Member = slice_index_or c.as_slice-members.result.now c.loop-member.member-index no_member in
    let ok : m.call < slice_index lens m.rank.0 = member_within lens c.args.run.now.links.now c.args.index c.get.result.now c.as_slice-members.result.now c.requires.within c.requires.index
    c.get.ensures c.as_slice-members.ensures c.loop-member.member-index c.loop-member-test.true in
    let there : m.rank.0 < length lens = in_ranks lens m.rank.0 m.call ok in
    omega (arith, c.requires.size, c.loop-member.invariant.size, c.loop-member.inboxes.ok)

pub push-requires : goal.push-requires
push-requires c =
    let lens = c.args.run.now.lens.now in
    let mid = c.loop-member.inboxes.items in
    let m : Member = slice_index_or c.as_slice-members.result.now c.loop-member.member-index no_member in
    let ok : m.call < slice_index lens m.rank.0 = member_within lens c.args.run.now.links.now c.args.index c.get.result.now c.as_slice-members.result.now c.requires.within c.requires.index
    c.get.ensures c.as_slice-members.ensures c.loop-member.member-index c.loop-member-test.true in
    let there : m.rank.0 < length lens = in_ranks lens m.rank.0 m.call ok in
    let in_mid : m.rank.0 < length mid = omega (arith, c.requires.size, c.loop-member.invariant.size) in
    let inbox = ap length (get_or_read mid m.rank.0 c.index_mut-inbox.result.now in_mid c.index_mut-inbox.ensures.value []) in
    omega (arith, c.requires.sizes m.rank.0, c.loop-member.invariant.sizes m.rank.0)

pub loop-member-preserved : goal.loop-member-preserved
loop-member-preserved c =
    let lens = c.args.run.now.lens.now in
    let members = c.as_slice-members.result.now in
    let i = c.loop-member.member-index in
    let old = c.args.inboxes.now.items in
    let mid = c.loop-member.inboxes.items in
    let m : Member = slice_index_or members i no_member in
    let rank = m.rank.0 in
    let call = m.call in
    let source : Source = Meet c.args.index in
    let ok : call < slice_index lens rank = member_within lens c.args.run.now.links.now c.args.index c.get.result.now members c.requires.within c.requires.index
    c.get.ensures c.as_slice-members.ensures i c.loop-member-test.true in
    let there : rank < length lens = in_ranks lens rank call ok in
    let in_mid : rank < length mid = omega (arith, c.requires.size, c.loop-member.invariant.size) in
    let inbox : c.index_mut-inbox.result.now ≡ slice_index_or mid rank [] = get_or_read mid rank c.index_mut-inbox.result.now in_mid c.index_mut-inbox.ensures.value [] in
    let in_calls : call < length (slice_index_or mid rank []) = omega (arith, c.requires.sizes rank, c.loop-member.invariant.sizes rank) in
    let new : c.push.new.self ≡ set (slice_index_or mid rank []) call (source ∷ sources_of (slice_index_or mid rank []) call) =
    c.in_ok-push.ensures ∙ ap (λ (v : List (List Source)). set v call (source ∷ slice_index_or v call [])) inbox in
    let P : List Member → Type 0 = λ ms. AreAdded (IsMemberSource c.args.index ms) old (set mid rank c.push.new.self) in
    let Q : List (List Source) → Type 0 = λ v. AreAdded (IsMemberSource c.args.index (take i members ++ m ∷ [])) old (set mid rank v) in
    subst P (sym (take_more members i no_member c.loop-member-test.true))
    (subst Q (sym new) (added_member c.args.index (take i members) m old mid c.loop-member.invariant in_mid in_calls))
