use Rattle.std.proofs.Common.{◌≡◌, take, sym, subst, ap, ◌∙◌, arith, option_map}
use Rattle.rma_call.specs.Call.{Call, call_of}
use Rattle.rma_completion.specs.inside.Kept.{Represents}
use Rattle.rma_epoch.specs.Table.{OnWindow}
use Rattle.rma_run.proofs.WalkLemmas.{taken_length, taken_there}
use Rattle.rma_span.proofs.completed.completions_of.Goals as goal

pub loop-number-preserved : goal.loop-number-preserved
loop-number-preserved c = λ windows are.
    let calls = c.args.calls.now.calls in
    let i = c.loop-number.number in
    let call = call_of c.get-call.result in
    let same = c.what_number.ensures.what ∙ ap (option_map (λ (own : Call). own.what)) c.get-call.ensures in
    let window = c.window-window.ensures ∙ ap (λ (on : OnWindow). on.window) (are i c.what_number.result call c.get-call.ensures same) in
    subst (λ l. Represents windows l c.take.new.self) (sym (taken_there calls i call c.get-call.ensures))
    (c.in_ok-take.ensures windows (take i calls) window (sym (taken_length calls i call c.get-call.ensures)) (c.loop-number.invariant windows are))

pub returns : goal.returns
returns c = λ windows are.
    let last = c.loop-number-test.false in
    let end = c.loop-number.auto in
    let e : c.loop-number.number ≡ c.args.sound = omega arith in
    subst (λ n. Represents windows (take n c.args.calls.now.calls) c.loop-number.own) e (c.loop-number.invariant windows are)
