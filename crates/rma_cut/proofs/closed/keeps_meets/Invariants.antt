use Rattle.std.proofs.Common.{ℕ, ◌<◌, get_or}
use Rattle.rma_link.specs.declared.meet.Meet.{Meet}
use Rattle.rma_cut.specs.inside.Kept.{IsMeetKept}
use Rattle.rma_cut.proofs.closed.keeps_meets.Given as goal

abbrev pub invariant-loop-meet : goal.invariant-loop-meet
invariant-loop-meet l = (k : ℕ) → k < l.meet-index → (d : Meet) → IsMeetKept l.cut (get_or l.meets k d)
