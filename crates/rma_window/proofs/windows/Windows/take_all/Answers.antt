use Rattle.std.proofs.Common.{◌≡◌, ◌<◌, ◌≤◌, Some, None, length, get_or, sym, ap, subst, ◌∙◌, slice_get, arith, ⊎_elim}
use Rattle.std.specs.Prelude.{fold, IfSome}
use Rattle.std.proofs.lemmas.Option.{slice_get_cases}
use Rattle.rma_call.specs.Call.{Call}
use Rattle.rma_window.specs.Windows.{with_call, with_creation}
use Rattle.rma_window.proofs.WholeLemmas.{call_taken, creations_none}
use Rattle.rma_window.proofs.windows.Windows.take_all.Goals as goal

pub loop-i-preserved : goal.loop-i-preserved
loop-i-preserved c =
    let own = c.args.rank.now in
    let calls = c.calls-calls.result.now.calls in
    let i = c.loop-i.i in
    let within : i < length calls = omega (arith, c.loop-i-test.true, c.len-i-end.ensures) in
    ⊎_elim
    (λ (one : (call : Call) × (i < length calls) × (slice_get calls i ≡ Some call) × (get_or calls i call ≡ call)).
    let there : slice_get own.calls i ≡ Some one.0 = ap (λ l. slice_get l i) (sym c.calls-calls.ensures) ∙ one.2 in
    let taken : c.take_at.new.self ≡ with_call c.loop-i.self c.rank.result i one.0.what = subst (λ found. IfSome found (λ call. c.take_at.new.self ≡ with_call c.loop-i.self c.rank.result i call.what)) one.2 c.in_ok-take_at.ensures in
    taken
    ∙ ap (λ rank. with_call c.loop-i.self rank i one.0.what) c.rank.ensures
    ∙ ap (λ windows. with_call windows own.rank i one.0.what) c.loop-i.invariant
    ∙ call_taken c.args.self.now own.rank own.calls i one.0 there)
    (λ past. absurd (let le = past.0 in omega arith))
    (slice_get_cases calls i).1

pub returns-then-not-has : goal.returns-then-not-has
returns-then-not-has c =
    let own = c.args.rank.now in
    sym (ap (fold with_creation c.args.self.now) (creations_none own.rank 0 own.calls (λ i call at. c.has.ensures c.if-not-has.true i call (rw (← c.calls-calls.ensures) at at))))
