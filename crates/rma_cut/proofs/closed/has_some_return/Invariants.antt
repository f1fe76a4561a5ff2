use Rattle.std.proofs.Common.{ℕ, ◌<◌, get_or}
use Rattle.rma_link.specs.declared.meet.Member.{Member}
use Rattle.rma_link.specs.Point.{return_of}
use Rattle.rma_clock.specs.Reached.{IsReached}
use Rattle.rma_cut.proofs.closed.has_some_return.Given as goal

abbrev pub invariant-loop-member : goal.invariant-loop-member
invariant-loop-member l = (k : ℕ) → k < l.member-index → (d : Member) → IsReached l.cut (return_of (get_or l.calls k d).rank (get_or l.calls k d).call) → ⊥
