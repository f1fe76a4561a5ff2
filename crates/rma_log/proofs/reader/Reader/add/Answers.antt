use Rattle.std.proofs.Common.{option_copied}
use Rattle.rma_log.proofs.ReadingLemmas.{Adds_noted, Adds_plain}
use Rattle.rma_log.proofs.reader.Reader.add.Goals as goal

pub returns-in_ok-note-clause-adds : goal.returns-in_ok-note-clause-adds
returns-in_ok-note-clause-adds c =
    rw c.in-Some.is
    (Adds_noted c.args.self.now c.add_what.new.self c.note.new.self c.in-Some.line.now.words c.args.what c.in_ok-number.number (option_copied c.args.request) c.args.lasts c.in_ok-number.ensures.grows
    c.in_ok-number.ensures.number c.in_ok-note.ensures.same c.in_ok-note.ensures.known)

pub returns-in_default-clause-adds : goal.returns-in_default-clause-adds
returns-in_default-clause-adds c =
    rw c.in_default.is (Adds_plain c.args.self.now c.add_what.new.self c.args.what (option_copied c.args.request) c.args.lasts c.in_ok-number.ensures.grows)
