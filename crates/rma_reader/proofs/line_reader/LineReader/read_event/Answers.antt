use Rattle.rma_reader.proofs.ReaderLemmas.{reads_at, reads_bad}
use Rattle.rma_reader.proofs.line_reader.LineReader.read_event.Goals as goal

pub invariant_of-self : goal.invariant_of-self
invariant_of-self c = λ known there. rw c.site_at.ensures.adds.whats (c.self.invariant known there)

pub returns-in-Err-clause-read : goal.returns-in-Err-clause-read
returns-in-Err-clause-read c =
    reads_bad c.site_at.new.self c.args.self.now.version c.args.line.now c.args.event c.in-Err.error c.site.ensures.split c.requires (rw c.site.ensures.site at c.in-Err.ensures.err)

pub invariant_of-self-2 : goal.invariant_of-self-2
invariant_of-self-2 c = λ known there. rw c.site_at.ensures.adds.whats (c.self.invariant known there)

pub returns-clause-read : goal.returns-clause-read
returns-clause-read c =
    reads_at c.site_at.new.self c.args.self.now.version c.args.line.now c.args.event c.in-Ok.site c.site.ensures.split c.requires (rw c.site.ensures.site at c.in-Ok.ensures.ok)
