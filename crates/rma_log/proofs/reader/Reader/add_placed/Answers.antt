use Rattle.rma_log.proofs.ReadingLemmas.{Adds_more}
use Rattle.rma_log.proofs.reader.Reader.add_placed.Goals as goal

pub returns-in_ok-note_template-clause-adds : goal.returns-in_ok-note_template-clause-adds
returns-in_ok-note_template-clause-adds c =
    rw c.in-Some-Some.is-0
    (Adds_more c.args.self.now c.add.new.self c.note_template.new.self c.in-Some-Some.line.now.words c.args.what c.in_ok-number.number _ c.args.lasts
    (rw c.in-Some-Some.is-0 at c.in_ok-number.ensures.adds) c.in_ok-number.ensures.number c.note_template.ensures.same c.note_template.ensures.known)
