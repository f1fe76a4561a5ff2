use Rattle.std.proofs.Common.{None, false, ap, slice_get, ◌∙◌}
use Rattle.rma_call.specs.Rma.{placed}
use Rattle.rma_call.specs.declared.what.What.TheVariants.{Rma}
use Rattle.rma_reader.specs.Reading.{Reading}
use Rattle.rma_log.proofs.ReadingLemmas.{Adds_noted}
use Rattle.rma_log.proofs.reader.Reader.add_access.Goals as goal

pub returns-clause-added : goal.returns-clause-added
returns-clause-added c =
    let placed_there = rw c.in-Some.is at c.in_ok-number.ensures.number in
    let does = Rma (placed placed_there.call c.args.place.now) in
    record {
      what = does;
      states = c.requires.1 placed_there.call placed_there.of;
      is = ap (λ (reading : Reading). slice_get reading.calls.whats c.in-Some.number) c.in_ok-note.ensures.same ∙ placed_there.is;
      adds = Adds_noted c.args.self.now c.add_placed.new.self c.note.new.self c.args.line.now.words does c.in-Some.number None false c.in_ok-number.ensures.grows placed_there.is c.in_ok-note.ensures.same
          c.in_ok-note.ensures.known;
    }
