use Rattle.std.proofs.Common.{sym, refl, append-nil}
use Rattle.rma_form.specs.declared.event.Event.TheVariants.{End}
use Rattle.rma_log.proofs.KnownLemmas.{known_on}
use Rattle.rma_log.proofs.ReadingLemmas.{Reads_taken}
use Rattle.rma_log.proofs.reader.Reader.read_end.Goals as goal

pub returns-in-None : goal.returns-in-None
returns-in-None c = λ site.
    let old = c.args.self.now in
    Reads_taken old _ c.args.no _
    (record {
      judged = c.in-None.ensures;
      version = refl;
      calls = λ events h. sym (append-nil old.lines.calls.calls);
      end = refl;
      known = λ events h are. known_on events End old.lines refl are;
    })
    c.requires
