use Rattle.std.proofs.Common.{ℕ, ◌<◌, get_or}
use Rattle.rma_link.specs.declared.meet.Member.{Member}
use Rattle.rma_cut.specs.inside.Kept.{HasEntry}
use Rattle.rma_cut.proofs.closed.has_entries.Given as goal

abbrev pub invariant-loop-member : goal.invariant-loop-member
invariant-loop-member l = (k : ℕ) → k < l.member-index → (d : Member) → HasEntry l.cut (get_or l.calls k d)
