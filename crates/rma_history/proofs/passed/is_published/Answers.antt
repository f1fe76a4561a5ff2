use Rattle.std.proofs.Common.{ℕ, List, get_or, Contains, subst, arith}
use Rattle.std.proofs.lemmas.List.Elements.{Contains-get_or}
use Rattle.rma_history.proofs.passed.is_published.Goals as goal

pub first_entered_after-first-requires-clause-clocks : goal.first_entered_after-first-requires-clause-clocks
first_entered_after-first-requires-clause-clocks g c = let some = c.requires in rw c.publishing-calls.ensures.calls (some.0, some.1, some.2, some.3, some.5 c.args.window)

pub passes-requires : goal.passes-requires
passes-requires g c =
    let some = c.requires in
    let calls = c.publishing-calls.result.now in
    let v = get_or calls c.first_entered_after-first.result 0 in
    let there = subst (λ (l : List ℕ). Contains l v) c.publishing-calls.ensures.calls (Contains-get_or calls c.first_entered_after-first.result 0 c.if-first-calls.true) in
    (some.0, some.1, some.2, rw c.entry_of.ensures (some.5 c.args.window v there), some.4)

pub returns-then-first-calls : goal.returns-then-first-calls
returns-then-first-calls g c =
    let calls = c.publishing-calls.result.now in
    let first = c.first_entered_after-first.result in
    let v = get_or calls first 0 in
    let there = subst (λ (l : List ℕ). Contains l v) c.publishing-calls.ensures.calls (Contains-get_or calls first 0 c.if-first-calls.true) in
    record {
      published = λ points links are reached entered all behind test.
          let each = λ (w : ℕ) (in_calls : Contains calls w). all c.args.window w (subst (λ (l : List ℕ). Contains l w) c.publishing-calls.ensures.calls in_calls) in
          let told = (rw c.entry_of.ensures at (c.passes.ensures.answer points links are)) (all c.args.window v there) entered behind test in
          (v, there, c.first_entered_after-first.ensures.after points links are reached each first (omega arith) c.if-first-calls.true, told);
      behind = λ points links are reached entered all behind. (rw c.entry_of.ensures at (c.passes.ensures.behind points links are)) (all c.args.window v there) entered behind;
    }
