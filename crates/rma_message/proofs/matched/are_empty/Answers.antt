use Rattle.std.proofs.Common.{◌≡◌, [], is_some, sym, subst, ◌∙◌, arith}
use Rattle.std.specs.Prelude.{All}
use Rattle.std.specs.Map.Iter.{deref_pair}
use Rattle.std.proofs.lemmas.List.Elements.{All-cons}
use Rattle.std.proofs.lemmas.Map.Iter.{rest_all, rest_more}
use Rattle.rma_message.proofs.MatchedLemmas.{no_first, queues_empty}
use Rattle.rma_message.proofs.matched.are_empty.Goals as goal

pub loop-calls-preserved : goal.loop-calls-preserved
loop-calls-preserved c = λ all.
    let rest = c.next.new.self in
    let key = c.in-Some.field-0-0 in
    let calls = c.in-Some.calls in
    let step = rest_more deref_pair c.loop-calls.calls-iterator rest c.next.result (key, calls) c.in-Some.is c.next.ensures.steps in
    let none = no_first calls.now.items (is_some c.front.result) c.front.ensures.item.2 (sym c.is_some.ensures ∙ c.if-is_some.false) in
    c.loop-calls.invariant (subst (All (λ e. e.1.items ≡ [])) (sym step) (All-cons (λ e. e.1.items ≡ []) (key.now, calls.now) rest none all))

pub returns : goal.returns
returns c = λ is.
    let end = rest_all deref_pair c.loop-calls.calls-iterator c.next.new.self c.next.result c.in-None.is c.next.ensures.steps in
    queues_empty c.args.queues.now.entries (c.loop-calls.invariant (subst (All (λ e. e.1.items ≡ [])) (sym end) (λ k d lt. absurd (omega arith))))
