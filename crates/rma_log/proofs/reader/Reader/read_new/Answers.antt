use Rattle.std.proofs.Common.{sym, subst}
use Rattle.rma_form.specs.declared.event.Event.{Event}
use Rattle.rma_log.specs.inside.Reading.{Reads}
use Rattle.rma_judge.proofs.CallLemmas.{OnOk_then}
use Rattle.rma_log.proofs.LineLemmas.{ReadsNext_nothing, ReadsNext_refused, ReadsNext_stated}
use Rattle.rma_log.proofs.reader.Reader.read_new.Goals as goal

pub returns-in-Ok-None : goal.returns-in-Ok-None
returns-in-Ok-None c = ReadsNext_nothing c.args.self.now c.read.new.self c.args.no c.args.line.now.line c.requires c.read.ensures.grows (rw c.in-Ok-None.field-0-is at c.in-Ok-None.ensures.ok)

pub returns-in-Ok-Some : goal.returns-in-Ok-Some
returns-in-Ok-Some c =
    let old = c.args.self.now in
    let read = rw c.in-Ok-Some.field-0-is at c.in-Ok-Some.ensures.ok in
    OnOk_then c.read_line.result c.read_line.ensures
    (λ reads. ReadsNext_stated old c.read.new.self c.args.no c.args.line.now.line c.requires c.read.ensures.grows c.read_line.new.self read.0 read.1
    (subst (λ (event : Event). Reads (record old { lines = c.read.new.self }) c.read_line.new.self c.args.no (record { event = event; site = read.0.site })) (sym read.2.event)
    (reads read.0.site read.2.site)))

pub returns-in-Err-Fault : goal.returns-in-Err-Fault
returns-in-Err-Fault c =
    ReadsNext_refused c.args.self.now c.read.new.self c.args.no c.args.line.now.line c.requires c.read.ensures.grows c.refuse.new.self c.in-Err-Fault.fault.reason
    (rw c.in-Err-Fault.field-0-is at c.in-Err-Fault.ensures.err) c.refuse.ensures
