use Rattle.rma_reader.proofs.ReaderLemmas.{within_more}
use Rattle.rma_reader.proofs.line_reader.LineReader.add_what.Goals as goal

pub invariant_of-self : goal.invariant_of-self
invariant_of-self c = λ known there. within_more c.self.inside.calls.whats c.add_what.new.self.whats c.add_what.ensures.adds.whats known.what (c.self.invariant known there)
