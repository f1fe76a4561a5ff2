use Rattle.std.proofs.Common.{◌++◌, ◌∷◌, [], sym, ap, refl, append-nil, ◌∙◌}
use Rattle.rma_form.specs.declared.event.Event.TheVariants.{Datatype}
use Rattle.rma_reader.specs.Reading.{Reading}
use Rattle.rma_judge.specs.Types.{types_after}
use Rattle.rma_log.proofs.KnownLemmas.{known_lasting}
use Rattle.rma_log.proofs.ReadingLemmas.{Reads_taken}
use Rattle.rma_log.proofs.reader.Reader.read_datatype.Goals as goal

pub returns-in-None : goal.returns-in-None
returns-in-None c = λ site.
    let old = c.args.self.now in
    let lines = c.forget_accesses.new.self in
    let same = c.forget_accesses.ensures.same in
    let event = Datatype c.args.line in
    Reads_taken old _ c.args.no _
    (record {
      judged = rw c.in-None.is at c.in_ok-reason.ensures;
      version = ap (λ (reading : Reading). reading.version) same;
      calls = λ events h. ap (λ (reading : Reading). reading.calls.calls) same ∙ sym (append-nil old.lines.calls.calls);
      end = refl;
      known = λ events h are.
          known_lasting (types_after events) (types_after (events ++ event ∷ [])) old.lines lines (ap (λ (reading : Reading). reading.calls) same) c.forget_accesses.ensures.among
          c.forget_accesses.ensures.lasting are;
    })
    c.requires
