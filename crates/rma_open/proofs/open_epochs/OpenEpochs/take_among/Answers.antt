use Rattle.std.proofs.Common.{sym, ap, ◌∙◌}
use Rattle.rma_call.specs.Call.{what_of}
use Rattle.rma_call.specs.declared.what.What.{What}
use Rattle.rma_open.specs.inside.Held.{open_of}
use Rattle.rma_open.specs.inside.Settled.{reason_among}
use Rattle.rma_open.proofs.EventLemmas.{next_other}
use Rattle.rma_open.proofs.open_epochs.OpenEpochs.take_among.Goals as goal

pub returns-in-Window-clause-reason : goal.returns-in-Window-clause-reason
returns-in-Window-clause-reason c =
    c.take_window.ensures.reason c.args.settled c.args.call.request
    ∙ ap (λ (what : What). reason_among c.args.settled (open_of c.args.self.now) what c.args.call.request) (sym (ap what_of c.in-Window.is))

pub returns-in_default-clause-taken : goal.returns-in_default-clause-taken
returns-in_default-clause-taken c = λ past is. next_other c.args.number c.args.call.what c.in_default.not-Epoch c.in_default.not-Rma c.in_default.not-Window past c.args.self.now is
