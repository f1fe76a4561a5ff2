use Rattle.std.specs.List.{AllWithin}
use Rattle.rma_link.specs.Point.{entry}
use Rattle.rma_walk.specs.inside.Run.{IsPassed}
use Rattle.rma_walk.proofs.pending.first_missing.Given as goal

abbrev pub invariant-loop-index : goal.invariant-loop-index
invariant-loop-index l = AllWithin (λ m. IsPassed l.next (entry m.rank m.call)) l.members 0 l.index
