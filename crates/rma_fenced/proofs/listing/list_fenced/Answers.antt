use Rattle.std.proofs.Common.{◌≡◌, List, ap, arith, take, option_map, Some, sym, ◌∙◌, if◌then◌else◌}
use Rattle.rma_call.specs.Call.{Call, call_of}
use Rattle.rma_epoch.specs.Table.{AreEpochs, at_what, sound_calls}
use Rattle.rma_window.specs.Windows.{Window}
use Rattle.rma_fenced.specs.Fenced.{fence_on, is_window, with_fenced}
use Rattle.rma_fenced.specs.inside.Fences.{with_exposure}
use Rattle.rma_fenced.proofs.FenceLemmas.{closed_is, fenced_taken, last_taken, none_fenced}
use Rattle.rma_fenced.proofs.PhaseLemmas.{sound_taken, sound_within}
use Rattle.rma_fenced.proofs.listing.list_fenced.Goals as goal

pub returns-then-is_empty : goal.returns-then-is_empty
returns-then-is_empty c = λ windows are. none_fenced windows c.args.rank c.args.spans.now c.args.phases.now (sound_calls windows c.args.calls.now.calls) (c.is_empty.ensures.0 c.if-is_empty.true)

pub get-call-requires : goal.get-call-requires
get-call-requires c =
    let (windows, are) = c.requires.table in
    let within = sound_within windows c.args.calls.now c.args.table.now are in
    let is = c.sound-i-end.ensures in
    let before = c.loop-i-test.true in
    omega arith

pub what_number-what-requires : goal.what_number-what-requires
what_number-what-requires c =
    let (windows, are) = c.requires.table in
    let within = sound_within windows c.args.calls.now c.args.table.now are in
    let is = c.sound-i-end.ensures in
    let before = c.loop-i-test.true in
    omega arith

pub loop-i-preserved : goal.loop-i-preserved
loop-i-preserved c =
    let calls = c.args.calls.now.calls in
    let call = call_of c.get-call.result in
    let i = c.loop-i.i in
    let same = c.what_number-what.ensures.what ∙ ap (option_map (λ (own : Call). own.what)) c.get-call.ensures in
    let is_on : (windows : List Window) → AreEpochs windows c.args.calls.now c.args.table.now → c.fence_on-window.result ≡ fence_on windows call.what =
    λ windows are. c.fence_on-window.ensures windows
    (ap (λ parts. at_what parts c.what_number-what.result) c.parts.ensures ∙ are.parts i c.what_number-what.result call c.get-call.ensures same) in
    record {
      spans = λ windows are.
          let closed = closed_is c.args.phases.now windows c.args.rank c.loop-i.fences.entries calls i call c.fence_on-window.result c.get-call.ensures (is_on windows are) (c.loop-i.invariant.fences windows are) in
          let before = c.loop-i.invariant.spans windows are in
          c.in_ok-list_call.ensures.spans
          ∙ (λ t. with_exposure (before t) (closed t))
          ∙ fenced_taken c.args.phases.now windows c.args.rank c.args.spans.now calls i call c.get-call.ensures;
      fences = λ windows are window.
          let on = is_on windows are in
          let before = c.loop-i.invariant.fences windows are window in
          c.in_ok-list_call.ensures.fences window
          ∙ (λ t. if is_window window (on t) then Some (record { number = i; line = call.line }) else before t)
          ∙ sym (last_taken windows window calls i call c.get-call.ensures);
    }

pub returns : goal.returns
returns c = λ windows are.
    let calls = c.args.calls.now.calls in
    let is = c.sound-i-end.ensures in
    let all = are.sound in
    let last = c.loop-i-test.false in
    let end = c.loop-i.auto in
    let e : c.loop-i.i ≡ c.args.table.now.sound = omega arith in
    c.loop-i.invariant.spans windows are
    ∙ ap (with_fenced c.args.spans.now c.args.phases.now windows c.args.rank) (ap (λ n. take n calls) e ∙ sound_taken windows c.args.calls.now c.args.table.now are)
