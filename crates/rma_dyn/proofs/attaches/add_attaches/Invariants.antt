use Rattle.rma_concurrent.specs.inside.Places.{HasMore, IsFrom}
use Rattle.rma_dyn.specs.Fault.{IsOverlap}
use Rattle.rma_dyn.proofs.attaches.add_attaches.Given as goal

-- those before are asked
abbrev pub invariant-loop-own : goal.invariant-loop-own
invariant-loop-own l = HasMore (IsFrom (IsOverlap l.list) l.list 0 l.own-index) l.initial.found.items l.found.items
