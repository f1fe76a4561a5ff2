use Rattle.std.proofs.Common.{◌≡◌, take, true}
use Rattle.rma_type.proofs.Words.{all_live, old_types_of, member_names}
use Rattle.rma_type.proofs.table.TypeTable.find_members.Given as goal

abbrev pub invariant-loop-member : goal.invariant-loop-member
invariant-loop-member l = record {
  found : l.old_types ≡ old_types_of l.self.live (member_names (take l.member-index l.members));
  live : all_live l.self.live (member_names (take l.member-index l.members)) ≡ true;
}
