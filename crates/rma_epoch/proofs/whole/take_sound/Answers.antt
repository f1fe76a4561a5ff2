use Rattle.std.proofs.Common.{◌≡◌, Some, None, take, sym, subst, ◌∙◌, arith}
use Rattle.rma_call.specs.Call.{call_of}
use Rattle.rma_open.specs.Reason.{reason_at}
use Rattle.rma_epoch.specs.Table.{taken_with}
use Rattle.rma_epoch.specs.inside.Live.{HasEpochs, Represents}
use Rattle.rma_epoch.proofs.LiveLemmas.{fault_on, taken_there}
use Rattle.rma_epoch.proofs.PlaceLemmas.{place_here}
use Rattle.rma_epoch.proofs.SoundLemmas.{sound_more, sound_until}
use Rattle.rma_epoch.proofs.whole.take_sound.Goals as goal

pub returns-in-Some-clause-fault : goal.returns-in-Some-clause-fault
returns-in-Some-clause-fault c =
    let calls = c.args.calls.now in
    let windows = c.args.windows.now in
    let i = c.loop-i.i in
    let call = call_of c.get-call.result in
    let reason : reason_at windows (take i calls.calls) call ≡ Some c.in-Some.reason = sym (c.in_ok-reason.ensures.reason (take i calls.calls) c.loop-i.invariant.taken) ∙ c.in-Some.is in
    sym (c.loop-i.invariant.fault ∙ fault_on windows calls.calls i call c.args.end (Some c.in-Some.reason) c.get-call.ensures reason)

pub returns-in-Some-clause-taken : goal.returns-in-Some-clause-taken
returns-in-Some-clause-taken c =
    let calls = c.args.calls.now in
    let windows = c.args.windows.now in
    let i = c.loop-i.i in
    let call = call_of c.get-call.result in
    let reason : reason_at windows (take i calls.calls) call ≡ Some c.in-Some.reason = sym (c.in_ok-reason.ensures.reason (take i calls.calls) c.loop-i.invariant.taken) ∙ c.in-Some.is in
    subst (λ before. Represents before c.take_at.new.self) (sym (sound_until windows calls.calls i call c.in-Some.reason c.get-call.ensures reason c.loop-i.invariant.sound))
    (subst (λ o. Represents (taken_with o call (take i calls.calls)) c.take_at.new.self) c.in-Some.is (c.in_ok-reason.ensures.taken (take i calls.calls) c.loop-i.invariant.taken))

pub returns-in-Some-clause-epochs : goal.returns-in-Some-clause-epochs
returns-in-Some-clause-epochs c =
    let calls = c.args.calls.now in
    let windows = c.args.windows.now in
    let i = c.loop-i.i in
    let call = call_of c.get-call.result in
    let reason : reason_at windows (take i calls.calls) call ≡ Some c.in-Some.reason = sym (c.in_ok-reason.ensures.reason (take i calls.calls) c.loop-i.invariant.taken) ∙ c.in-Some.is in
    subst (λ before. HasEpochs windows before c.take_at.new.self) (sym (sound_until windows calls.calls i call c.in-Some.reason c.get-call.ensures reason c.loop-i.invariant.sound))
    (subst (λ o. HasEpochs windows (taken_with o call (take i calls.calls)) c.take_at.new.self) c.in-Some.is (c.in_ok-reason.ensures.epochs (take i calls.calls) c.loop-i.invariant.taken c.loop-i.invariant.epochs))

pub loop-i-preserved : goal.loop-i-preserved
loop-i-preserved c =
    let calls = c.args.calls.now in
    let windows = c.args.windows.now in
    let i = c.loop-i.i in
    let call = call_of c.get-call.result in
    let none : reason_at windows (take i calls.calls) call ≡ None = sym (c.in_ok-reason.ensures.reason (take i calls.calls) c.loop-i.invariant.taken) ∙ c.in_default.is in
    record {
      taken = subst (λ before. Represents before c.take_at.new.self) (sym (taken_there calls.calls i call c.get-call.ensures))
          (subst (λ o. Represents (taken_with o call (take i calls.calls)) c.take_at.new.self) c.in_default.is (c.in_ok-reason.ensures.taken (take i calls.calls) c.loop-i.invariant.taken));
      epochs = subst (λ before. HasEpochs windows before c.take_at.new.self) (sym (taken_there calls.calls i call c.get-call.ensures))
          (subst (λ o. HasEpochs windows (taken_with o call (take i calls.calls)) c.take_at.new.self) c.in_default.is (c.in_ok-reason.ensures.epochs (take i calls.calls) c.loop-i.invariant.taken c.loop-i.invariant.epochs));
      names = c.in_ok-reason.ensures.names ∙ c.loop-i.invariant.names;
      fault = c.loop-i.invariant.fault ∙ fault_on windows calls.calls i call c.args.end None c.get-call.ensures none;
      sound = sound_more windows calls.calls i call c.get-call.ensures none c.loop-i.invariant.sound;
    }

pub take_at-requires : goal.take_at-requires
take_at-requires c =
    let calls = c.args.calls.now in
    let windows = c.args.windows.now in
    let places = c.args.places.now in
    let call = call_of c.get-call.result in
    let number = c.what_number.result in
    place_here windows _ _ calls.whats places calls.calls c.loop-i.i number call c.requires.places (omega (arith, c.what_number.ensures.within, c.requires.each))
    c.get-call.ensures c.what_number.ensures.what c.loop-i.invariant.names
