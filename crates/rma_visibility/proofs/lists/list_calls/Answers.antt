use Rattle.std.proofs.Common.{◌≡◌, length, take, sym, ap, subst, ◌∙◌, arith, option_map}
use Rattle.rma_call.specs.Call.{Call, call_of}
use Rattle.rma_run.proofs.WalkLemmas.{taken_length, taken_there}
use Rattle.rma_epoch.specs.Table.{at_what, sound_calls}
use Rattle.rma_epoch.proofs.SoundLemmas.{sound_first, sound_within}
use Rattle.rma_visibility.specs.Visibility.{AreListed}
use Rattle.rma_visibility.proofs.ListedLemmas.{same_again}
use Rattle.rma_visibility.proofs.lists.list_calls.Goals as goal

pub get-call-requires : goal.get-call-requires
get-call-requires c =
    let few = sound_within c.args.windows.now c.args.calls.now.calls in
    let sound = c.sound-i-end.ensures in
    let all = c.requires.table.sound in
    let before = c.loop-i-test.true in
    omega arith

pub window_at-window-requires : goal.window_at-window-requires
window_at-window-requires c =
    let call = call_of c.get-call.result in
    let same = c.what_number-number.ensures.what ∙ ap (option_map (λ (own : Call). own.what)) c.get-call.ensures in
    ap (λ parts. at_what parts c.what_number-number.result) c.parts.ensures
    ∙ c.requires.table.parts c.loop-i.i c.what_number-number.result call c.get-call.ensures same

pub list_call-requires-clause-small : goal.list_call-requires-clause-small
list_call-requires-clause-small c =
    let few = sound_within c.args.windows.now c.args.calls.now.calls in
    let sound = c.sound-i-end.ensures in
    let all = c.requires.table.sound in
    let before = c.loop-i-test.true in
    let most = c.requires.few in
    omega arith

pub list_call-requires-clause-listed : goal.list_call-requires-clause-listed
list_call-requires-clause-listed c =
    let calls = c.args.calls.now.calls in
    (c.args.windows.now, take c.loop-i.i calls, sym (taken_length calls c.loop-i.i (call_of c.get-call.result) c.get-call.ensures), c.loop-i.invariant.own)

pub loop-i-preserved : goal.loop-i-preserved
loop-i-preserved c =
    let calls = c.args.calls.now.calls in
    let windows = c.args.windows.now in
    let i = c.loop-i.i in
    let call = call_of c.get-call.result in
    record {
      own = subst (λ l. AreListed windows c.args.rank l c.list_call.new.spans) (sym (taken_there calls i call c.get-call.ensures))
          (c.in_ok-list_call.ensures.own windows (take i calls) call (λ t. call.what) c.window_at-window.ensures (sym (taken_length calls i call c.get-call.ensures)) c.loop-i.invariant.own);
      others = same_again c.args.rank c.args.spans.now c.loop-i.spans c.list_call.new.spans c.loop-i.invariant.others c.in_ok-list_call.ensures.others;
    }

pub returns-clause-own : goal.returns-clause-own
returns-clause-own c =
    let calls = c.args.calls.now.calls in
    let windows = c.args.windows.now in
    let sound = c.sound-i-end.ensures in
    let all = c.requires.table.sound in
    let last = c.loop-i-test.false in
    let end = c.loop-i.auto in
    let e : length (sound_calls windows calls) ≡ c.loop-i.i = omega arith in
    subst (λ l. AreListed windows c.args.rank l c.loop-i.spans) (ap (λ n. take n calls) (sym e) ∙ sym (sound_first windows calls)) c.loop-i.invariant.own
