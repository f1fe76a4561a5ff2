use Rattle.std.proofs.Common.{sym, arith}
use Rattle.rma_type.proofs.Words.{no_type, summary_in}
use Rattle.rma_type.proofs.MemberLemmas.{entries_more, all_taken}
use Rattle.rma_type.proofs.table.TypeTable.members_exceed.Goals as goal

pub loop-i-preserved : goal.loop-i-preserved
loop-i-preserved c =
    let os = c.args.self.now.origins in
    let i = c.loop-i.i in
    let m = c.index-members-i.result in
    record {
      value = rw (c.loop-i.invariant.value, c.member_entries-total.ensures.value, entries_more os c.args.members.now c.args.old_types.now c.requires.fit i m no_type c.loop-i-test.true (sym c.index-members-i.is));
      small = omega (arith, c.loop-i.invariant.small, c.member_entries-total.ensures.small);
    }

pub returns : goal.returns
returns c =
    rw (c.loop-i.invariant.value, all_taken (summary_in c.args.self.now.origins) c.args.members.now c.args.old_types.now c.requires.fit c.loop-i.i (omega arith), c.from.ensures)
