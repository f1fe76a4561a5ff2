use Rattle.rma_reader.proofs.line_reader.LineReader.read_whole.Goals as goal

pub invariant_of-self : goal.invariant_of-self
invariant_of-self c = λ known there. rw c.number_site.ensures.adds.whats (c.self.invariant known there)
