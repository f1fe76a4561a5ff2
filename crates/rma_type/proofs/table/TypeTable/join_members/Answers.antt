use Rattle.std.proofs.Common.{sym, ap, ◌∙◌, arith}
use Rattle.rma_type.proofs.Words.{no_type, struct_of, summary_in}
use Rattle.rma_type.proofs.MemberLemmas.{member_more, entries_more, entries_more_le, all_taken}
use Rattle.rma_type.proofs.table.TypeTable.join_members.Goals as goal

pub append_member-done-requires-clause-few : goal.append_member-done-requires-clause-few
append_member-done-requires-clause-few c =
    let le = entries_more_le c.args.self.now.origins c.args.members.now c.args.old_types.now c.requires.fit c.loop-i.i c.index-members-i.result no_type c.loop-i-test.true (sym c.index-members-i.is) in
    let entries = c.loop-i.invariant.entries in
    omega (arith, le, entries, c.requires.few)

pub loop-i-preserved : goal.loop-i-preserved
loop-i-preserved c =
    let os = c.args.self.now.origins in
    let ms = c.args.members.now in
    let old_types = c.args.old_types.now in
    let i = c.loop-i.i in
    let m = c.index-members-i.result in
    record {
      value = rw (c.append_member-done.ensures.value, c.loop-i.invariant.value, member_more os ms old_types c.requires.fit i m no_type c.loop-i-test.true (sym c.index-members-i.is));
      near = c.append_member-done.ensures.result_near;
      sound = c.append_member-done.ensures.result_sound;
      entries = rw (c.append_member-done.ensures.entries, c.loop-i.invariant.entries, entries_more os ms old_types c.requires.fit i m no_type c.loop-i-test.true (sym c.index-members-i.is));
    }

pub returns : goal.returns
returns c =
    c.loop-i.invariant.value
    ∙ ap struct_of (all_taken (summary_in c.args.self.now.origins) c.args.members.now c.args.old_types.now c.requires.fit c.loop-i.i (omega arith))
