use Rattle.std.proofs.Common.{take, sym, subst}
use Rattle.std.proofs.lemmas.Result.{on_ok_weaker}
use Rattle.rma_call.specs.Call.{call_of}
use Rattle.rma_span.specs.inside.Stored.{AreSpans}
use Rattle.rma_span.proofs.SpanLemmas.{spans_more}
use Rattle.rma_span.proofs.walk.Walk.add_spans.Goals as goal

pub returns-clause-kept : goal.returns-clause-kept
returns-clause-kept c =
    on_ok_weaker c.push_some.result
    (λ pushed own before le of there way are.
    let ready = c.in_ok-go_on.ensures.way own before le way in
    let first = subst (λ lists. AreSpans own (take c.args.number own.sound) lists c.args.self.now.target_lists c.args.kept.now.items) (sym c.in_ok-go_on.ensures.own) are in
    subst (AreSpans own _ _ _) (sym pushed)
    (spans_more own c.args.number (call_of c.args.call) _ _ _ _ c.args.kept.now.items c.in_ok-spans.spans there c.in_ok-spans.ensures.own c.in_ok-spans.ensures.target
    (c.in_ok-spans.ensures.kept own of there ready)
    (subst (λ lists. AreSpans own (take c.args.number own.sound) c.go_on.new.self.own_lists lists c.args.kept.now.items) (sym c.in_ok-go_on.ensures.target) first)))
    c.push_some.ensures
