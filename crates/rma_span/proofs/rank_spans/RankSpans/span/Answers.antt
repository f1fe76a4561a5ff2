use Rattle.std.proofs.Common.{sym, ap, ◌∙◌}
use Rattle.rma_call.specs.Call.{Call}
use Rattle.rma_span.specs.Span.{own_span_of, target_span_of}
use Rattle.std.proofs.lemmas.Option.{same_Some}
use Rattle.rma_span.proofs.rank_spans.RankSpans.span.Goals as goal

pub returns-then-is_at_target : goal.returns-then-is_at_target
returns-then-is_at_target c = λ own call are there.
    let same = same_Some are.call call (sym are.there ∙ there) in
    rw (sym c.is_at_target.ensures ∙ c.if-is_at_target.true)
    (c.target_in.ensures (target_span_of own c.args.spans.call are.call.what) are.target_is ∙ ap (λ (other : Call). target_span_of own c.args.spans.call other.what) same)

pub returns-else-is_at_target : goal.returns-else-is_at_target
returns-else-is_at_target c = λ own call are there.
    let same = same_Some are.call call (sym are.there ∙ there) in
    rw (sym c.is_at_target.ensures ∙ c.if-is_at_target.false)
    (c.own_in.ensures (own_span_of own c.args.spans.call are.call are.call.what) are.own_is ∙ ap (λ (other : Call). own_span_of own c.args.spans.call other other.what) same)
