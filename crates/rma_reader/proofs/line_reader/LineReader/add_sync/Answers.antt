use Rattle.rma_reader.proofs.ReaderLemmas.{within_more}
use Rattle.rma_reader.proofs.line_reader.LineReader.add_sync.Goals as goal

pub invariant_of-self : goal.invariant_of-self
invariant_of-self c = λ known there. within_more c.self.inside.calls.whats c.add_sync.new.self.whats c.add_sync.ensures.adds.whats known.what (c.self.invariant known there)
