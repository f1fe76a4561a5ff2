use Rattle.std.specs.Option.{option_copied}
use Rattle.rma_judge.proofs.CallLemmas.{OnOk_then}
use Rattle.rma_log.proofs.LineLemmas.{ReadsNext_elsewhere, ReadsNext_unsited}
use Rattle.rma_log.proofs.reader.Reader.read_added.Goals as goal

pub returns-in-Ok : goal.returns-in-Ok
returns-in-Ok c =
    let sited = rw c.in-Ok.is at c.site.ensures.ok in
    OnOk_then c.read_call.result c.read_call.ensures
    (λ reads old none added. ReadsNext_elsewhere old c.args.self.now c.read_call.new.self c.site.new.self c.args.no c.args.line.now added.what (option_copied c.args.request) none added.adds c.site.ensures.grows
    c.site.ensures.split added.states c.in-Ok.site sited
    (λ event text call is. reads added.what event text (c.site.ensures.grows.whats c.args.what added.what added.is) call is))

pub returns-in-Err-Fault : goal.returns-in-Err-Fault
returns-in-Err-Fault c = λ old none added.
    ReadsNext_unsited old c.args.self.now c.refuse.new.self c.site.new.self c.args.no c.args.line.now added.what (option_copied c.args.request) none added.adds c.site.ensures.grows c.site.ensures.split added.states
    c.in-Err-Fault.fault.reason (rw c.in-Err-Fault.field-0-is at c.in-Err-Fault.ensures.err) c.refuse.ensures
