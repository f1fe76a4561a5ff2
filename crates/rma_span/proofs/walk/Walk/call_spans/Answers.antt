use Rattle.std.proofs.Common.{sym, ap, refl}
use Rattle.std.proofs.lemmas.Result.{IfOk-weaker}
use Rattle.rma_call.specs.Call.{call_of, what_of}
use Rattle.rma_call.specs.Rma.{access_of}
use Rattle.rma_span.proofs.walk.Walk.call_spans.Goals as goal

pub returns-in-Local-clause-kept : goal.returns-in-Local-clause-kept
returns-in-Local-clause-kept c =
    IfOk-weaker c.local_spans.result _ _
    (λ kept holds own of there way. holds own (call_of c.args.call) c.in-Local.field-0.now of (ap what_of c.in-Local.is) way)
    c.local_spans.ensures.kept

pub returns-in-Rma-clause-kept : goal.returns-in-Rma-clause-kept
returns-in-Rma-clause-kept c =
    IfOk-weaker c.access_spans.result _ _
    (λ kept holds own of there way. holds own (call_of c.args.call) (access_of c.in-Rma.access) of (ap what_of c.in-Rma.is) (sym c.target.ensures) refl there way)
    c.access_spans.ensures.kept
