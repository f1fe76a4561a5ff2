use Rattle.std.proofs.Common.{◌≡◌, ◌+◌, ◌∷◌, [], length, length-append, None, sym, ap, subst, ◌∙◌}
use Rattle.rma_call.specs.Call.{call_of}
use Rattle.rma_open.specs.Reason.{reason_at}
use Rattle.rma_open.proofs.TestLemmas.{is_nothing}
use Rattle.rma_epoch.specs.declared.live.Taken.{Taken}
use Rattle.rma_epoch.specs.Table.{Ascend, taken_with}
use Rattle.rma_epoch.specs.inside.Live.{HasEpochs}
use Rattle.rma_epoch.specs.inside.Windows.{IsOpenAfter, names_in}
use Rattle.rma_epoch.proofs.PlaceLemmas.{taken_none}
use Rattle.rma_epoch.proofs.StepLemmas.{next_epochs, next_placed, next_taken, not_taken, place_window}
use Rattle.rma_epoch.proofs.TableLemmas.{epochs_ascend}
use Rattle.rma_epoch.proofs.live.LiveEpochs.take_at.Goals as goal

pub returns-then-is_some-clause-reason : goal.returns-then-is_some-clause-reason
returns-then-is_some-clause-reason c = λ calls are. ap (λ (t : Taken). t.reason) c.refused.ensures ∙ (c.in_ok-step.ensures.taken c.args.windows.now calls c.requires are.taken_are are.open_is).reason_is

pub returns-then-is_some-clause-taken : goal.returns-then-is_some-clause-taken
returns-then-is_some-clause-taken c = λ calls are.
    let call = call_of c.args.call in
    let same = ap (λ (t : Taken). taken_with t.reason call calls) c.refused.ensures ∙ taken_none c.in_ok-step.step.reason call calls (sym c.is_some.ensures ∙ c.if-is_some.true) in
    let taken = c.in_ok-step.ensures.taken c.args.windows.now calls c.requires are.taken_are are.open_is in
    record {
      open_is = subst (λ (t : Taken). IsOpenAfter (taken_with t.reason call calls) c.take.new.self) (sym c.refused.ensures) (record { windows_are = taken.windows_are });
      taken_are = are.taken_are ∙ ap length (sym same);
    }

pub returns-then-is_some-clause-epochs : goal.returns-then-is_some-clause-epochs
returns-then-is_some-clause-epochs c = λ calls are has.
    let call = call_of c.args.call in
    let same = ap (λ (t : Taken). taken_with t.reason call calls) c.refused.ensures ∙ taken_none c.in_ok-step.step.reason call calls (sym c.is_some.ensures ∙ c.if-is_some.true) in
    subst (λ all. HasEpochs c.args.windows.now all (record { windows = c.take.new.self; taken = c.args.self.now.taken; placements = c.args.self.now.placements })) (sym same) (record { epochs_are = has.epochs_are; placed_are = has.placed_are })

pub returns-then-is_some-clause-indices : goal.returns-then-is_some-clause-indices
returns-then-is_some-clause-indices c = λ calls are has.
    not_taken c.args.windows.now calls (call_of c.args.call) c.refused.result c.in_ok-step.step.reason c.refused.ensures (sym c.is_some.ensures ∙ c.if-is_some.true)
    (c.in_ok-step.ensures.taken c.args.windows.now calls c.requires are.taken_are are.open_is).reason_is

pub returns-clause-reason : goal.returns-clause-reason
returns-clause-reason c = λ calls are.
    sym (is_nothing c.in_ok-step.step.reason (sym c.is_some.ensures ∙ c.if-is_some.false)) ∙ (c.in_ok-step.ensures.taken c.args.windows.now calls c.requires are.taken_are are.open_is).reason_is

pub returns-clause-taken : goal.returns-clause-taken
returns-clause-taken c = λ calls are.
    let call = call_of c.args.call in
    let reason = c.in_ok-step.step.reason in
    let none : reason ≡ None = is_nothing reason (sym c.is_some.ensures ∙ c.if-is_some.false) in
    let taken = c.in_ok-step.ensures.taken c.args.windows.now calls c.requires are.taken_are are.open_is in
    record {
      open_is = subst (λ o. IsOpenAfter (taken_with o call calls) c.take.new.self) none (record { windows_are = taken.windows_are });
      taken_are = c.in-Some.ensures.1 ∙ ap (λ k. k + 1) are.taken_are ∙ sym (length-append calls (call ∷ []));
    }

pub returns-clause-epochs : goal.returns-clause-epochs
returns-clause-epochs c = λ calls are has.
    let call = call_of c.args.call in
    let own = c.args.self.now in
    let windows = c.args.windows.now in
    let old = own.placements.epochs.items in
    let stands = (c.in_ok-step.ensures.taken windows calls c.requires are.taken_are are.open_is).placement_is in
    let up : Ascend old = subst Ascend (sym has.epochs_are) (epochs_ascend windows calls) in
    let on = c.window_of-window.ensures ∙ place_window windows (names_in own.windows) call.what c.args.place c.requires in
    record {
      epochs_are = c.in_ok-indices.ensures.epochs up ∙ next_epochs windows calls call c.in_ok-step.step.placement old stands has.epochs_are own.taken c.window_of-window.result are.taken_are on;
      placed_are = c.in_ok-indices.ensures.placed up ∙ next_placed windows calls call c.in_ok-step.step.placement old stands has.epochs_are own.taken own.placements.placed.items are.taken_are has.placed_are;
    }

pub returns-clause-indices : goal.returns-clause-indices
returns-clause-indices c = λ calls are has.
    let call = call_of c.args.call in
    let own = c.args.self.now in
    let windows = c.args.windows.now in
    let old = own.placements.epochs.items in
    let taken = c.in_ok-step.ensures.taken windows calls c.requires are.taken_are are.open_is in
    let none : None ≡ reason_at windows calls call = sym (is_nothing c.in_ok-step.step.reason (sym c.is_some.ensures ∙ c.if-is_some.false)) ∙ taken.reason_is in
    let up : Ascend old = subst Ascend (sym has.epochs_are) (epochs_ascend windows calls) in
    next_taken windows calls call c.in_ok-step.step.placement old taken.placement_is has.epochs_are c.in_ok-indices.indices (c.in_ok-indices.ensures.indices up) none
