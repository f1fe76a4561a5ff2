use Rattle.rma_layout.proofs.Words.{moved, Appends}
use Rattle.rma_layout.proofs.BytesLemmas.{range}
use Rattle.rma_layout.proofs.output.Output.copy_range.Given as goal

abbrev pub invariant-range : goal.invariant-range
invariant-range l = Appends l.fn.self l.self (moved l.fn.by (range l.from l.i l.fn.self.blocks.items))
