use Rattle.std.proofs.Common.{length, take, replicate}
use Rattle.rma_clock.specs.inside.Before.{IsBeforeMember, IsRaised}
use Rattle.rma_clock.proofs.builder.Builder.meet_row.Given as goal

abbrev pub invariant-loop-member : goal.invariant-loop-member
invariant-loop-member l = IsRaised (IsBeforeMember l.self.links.now (take l.member-index l.member-items)) (replicate (length l.self.table.steps.items) 0) l.row
