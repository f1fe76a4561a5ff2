use Rattle.std.proofs.Common.{subst, sym, ap, refl, append-nil, ◌∙◌}
use Rattle.rma_form.specs.declared.event.Event.TheVariants.{Header}
use Rattle.rma_reader.specs.Reading.{Reading}
use Rattle.rma_log.specs.declared.reader.Reader.{Reader}
use Rattle.rma_judge.specs.Types.{types_after}
use Rattle.rma_log.specs.inside.Known.{AreKnown}
use Rattle.rma_log.proofs.KnownLemmas.{known_on}
use Rattle.rma_log.proofs.ReadingLemmas.{Reads_refused, Reads_taken}
use Rattle.rma_log.proofs.reader.Reader.read_header.Goals as goal

pub returns-in-Some : goal.returns-in-Some
returns-in-Some c = λ site.
    Reads_refused c.args.self.now c.refuse.new.self c.args.no _ (record { line = c.args.no; reason = c.in-Some.reason })
    (rw c.refuse.ensures (record {
      judged = c.in-Some.ensures c.args.version;
      line = refl;
      calls = refl;
      end = refl;
    }))
    (ap (λ (reader : Reader). reader.fault) c.refuse.ensures)

pub returns-in-None : goal.returns-in-None
returns-in-None c = λ site.
    let set = c.set_version.ensures in
    Reads_taken c.args.self.now _ c.args.no _
    (record {
      judged = c.in-None.ensures c.args.version;
      version = ap (λ (lines : Reading). lines.version) set;
      calls = λ events h. ap (λ (lines : Reading). lines.calls.calls) set ∙ sym (append-nil c.args.self.now.lines.calls.calls);
      end = refl;
      known = λ events h are. known_on events (Header c.args.version c.args.rank c.args.size) c.set_version.new.self refl (subst (AreKnown (types_after events)) (sym set) (λ known there. are known there));
    })
    c.requires
