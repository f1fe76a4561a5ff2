use Rattle.std.proofs.Common.{sym, subst}
use Rattle.rma_form.specs.declared.event.Event.{Event}
use Rattle.rma_log.specs.inside.Reading.{Reads}
use Rattle.rma_judge.proofs.CallLemmas.{OnOk_then}
use Rattle.rma_log.proofs.reader.Reader.read_line.Goals as goal

pub returns-in-Header : goal.returns-in-Header
returns-in-Header c =
    OnOk_then c.read_header.result c.read_header.ensures
    (λ reads text site. subst (λ (event : Event). Reads c.args.self.now c.read_header.new.self c.args.no (record { event = event; site = text })) (sym c.in-Header.is) (reads text))

pub returns-in-End : goal.returns-in-End
returns-in-End c = λ text site. subst (λ (event : Event). Reads c.args.self.now c.read_end.new.self c.args.no (record { event = event; site = text })) (sym c.in-End.is) (c.read_end.ensures text)

pub returns-in-Datatype : goal.returns-in-Datatype
returns-in-Datatype c =
    OnOk_then c.read_datatype.result c.read_datatype.ensures
    (λ reads text site. subst (λ (event : Event). Reads c.args.self.now c.read_datatype.new.self c.args.no (record { event = event; site = text })) (sym c.in-Datatype.is) (reads text))
