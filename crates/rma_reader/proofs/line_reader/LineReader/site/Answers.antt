use Rattle.rma_reader.proofs.line_reader.LineReader.site.Goals as goal

pub invariant_of-self : goal.invariant_of-self
invariant_of-self c = λ known there. rw c.site_at.ensures.adds.whats (c.self.invariant known there)
