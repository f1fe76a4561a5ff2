use Rattle.std.proofs.Common.{◌≡◌, ℕ, Contains, List, Some, slice_get, option_map, refl, sym, ap, subst, ◌∙◌}
use Rattle.std.proofs.lemmas.Option.{same_Some}
use Rattle.rma_call.specs.Call.{Call, call_of}
use Rattle.rma_call.specs.declared.epoch.EpochCall.TheVariants.{Start}
use Rattle.rma_call.specs.declared.what.SyncCall.TheVariants.{Epoch}
use Rattle.rma_call.specs.declared.what.What.{What}
use Rattle.rma_call.specs.declared.what.What.TheVariants.{Sync}
use Rattle.rma_run.specs.Run.{calls_of}
use Rattle.rma_concurrent.specs.inside.Places.{HasMore}
use Rattle.rma_assert.specs.Asserted.{assertions_of}
use Rattle.rma_assert.specs.declared.asserting.Asserting.{Asserting}
use Rattle.rma_assert.specs.declared.assertion.BrokenAssertion.{BrokenAssertion}
use Rattle.rma_assert.specs.inside.Gathered.{IsAsserting}
use Rattle.rma_assert.specs.inside.Started.{IsOfTarget}
use Rattle.rma_assert.proofs.GatherLemmas.{on_ok}
use Rattle.rma_assert.proofs.StartLemmas.{more_of_start}
use Rattle.rma_assert.proofs.starts.add_of_call.Goals as goal

pub returns : goal.returns
returns g c =
    let calls = calls_of c.args.ranks.now in
    let call : Call = call_of c.get.result in
    let window = c.in-Epoch-Start.field-0-0 in
    let group = c.in-Epoch-Start.targets in
    let assertions = c.in-Epoch-Start.assertions in
    let there : slice_get (calls c.args.rank.0) c.args.number ≡ Some call = ap (λ (l : List Call). slice_get l c.args.number) c.requires.own ∙ c.get.ensures in
    let does : call.what ≡ Sync (Epoch (Start window group assertions)) =
    same_Some _ _ (ap (λ o. option_map (λ (own : Call). own.what) o) (sym c.get.ensures) ∙ sym c.what_number.ensures.what ∙ c.in-Epoch-Start.ensures) ∙ ap (λ own. Sync (Epoch own)) c.in-Epoch-Start.field-0-is in
    let start : Asserting = record { rank = c.args.rank; number = c.args.number; line = c.get.result.line; nocheck = assertions.nocheck } in
    let is : IsAsserting calls start = record { call = call; there = there; line = refl; nocheck = ap (λ (what : What). (assertions_of what).nocheck) (sym does) } in
    on_ok c.add_of_targets.result
    (λ told links are.
    more_of_start calls links start is window group assertions does c.args.found.now.items c.add_of_targets.new.found.items
    (subst (λ (targets : List ℕ). HasMore (λ (x : BrokenAssertion). (target : ℕ) × Contains targets target × IsOfTarget links calls start target x) c.args.found.now.items c.add_of_targets.new.found.items) c.numbers.ensures.numbers (told links are)))
    c.add_of_targets.ensures
