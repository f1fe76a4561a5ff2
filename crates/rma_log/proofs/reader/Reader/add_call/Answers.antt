use Rattle.std.proofs.Common.{false, ap, option_copied, slice_get, ◌∙◌}
use Rattle.rma_call.specs.declared.what.What.TheVariants.{Sync}
use Rattle.rma_reader.specs.Reading.{Reading}
use Rattle.rma_log.proofs.ReadingLemmas.{Adds_noted}
use Rattle.rma_log.proofs.reader.Reader.add_call.Goals as goal

pub returns-clause-added : goal.returns-clause-added
returns-clause-added c = record {
  what = Sync c.args.call;
  states = c.requires;
  is = ap (λ (reading : Reading). slice_get reading.calls.whats c.in_ok-number.number) c.in_ok-note.ensures.same ∙ c.in_ok-number.ensures.number;
  adds = Adds_noted c.args.self.now c.add_sync.new.self c.note.new.self c.args.line.now.words (Sync c.args.call) c.in_ok-number.number (option_copied c.args.request) false c.in_ok-number.ensures.grows
      c.in_ok-number.ensures.number c.in_ok-note.ensures.same c.in_ok-note.ensures.known;
}
