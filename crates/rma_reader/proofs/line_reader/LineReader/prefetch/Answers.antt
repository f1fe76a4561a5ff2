use Rattle.rma_reader.proofs.line_reader.LineReader.prefetch.Goals as goal

pub invariant_of-self : goal.invariant_of-self
invariant_of-self c = λ known there. rw c.prefetch.ensures (c.self.invariant known there)
