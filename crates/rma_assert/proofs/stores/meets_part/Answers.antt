use Rattle.std.proofs.Common.{◌≡◌, None, Some, IsTrue, refl, sym, subst, ◌∙◌}
use Rattle.rma_window.specs.Windows.{part_of}
use Rattle.rma_rules.specs.Access.{Access}
use Rattle.rma_rules.specs.Share.{MeetsRun}
use Rattle.rma_rules.proofs.PartLemmas.{none_met, part_met}
use Rattle.rma_assert.proofs.stores.meets_part.Goals as goal

pub returns-in-Some : goal.returns-in-Some
returns-in-Some c =
    let a = c.args.access.now in
    let there : part_of c.args.windows.now c.args.window a.memory ≡ Some c.in-Some.part = rw (← c.access.view_is) (sym c.part.ensures.part ∙ c.in-Some.is) in
    let met = part_met c.args.windows.now a (Some c.args.window) c.args.window c.in-Some.part refl there in
    let told = rw c.run_of_part.ensures at
    (subst (λ (r : Access). (IsTrue c.meets_run.result → MeetsRun r.runs c.run_of_part.result) × (MeetsRun r.runs c.run_of_part.result → IsTrue c.meets_run.result)) c.access.view_is c.meets_run.ensures) in
    (λ test. met.0 (told.0 test), λ is. told.1 (met.1 is))

pub returns-in-None : goal.returns-in-None
returns-in-None c =
    let a = c.args.access.now in
    let there : part_of c.args.windows.now c.args.window a.memory ≡ None = rw (← c.access.view_is) (sym c.part.ensures.part ∙ c.in-None.is) in
    (λ test. absurd (cc), λ is. absurd (none_met c.args.windows.now a (Some c.args.window) c.args.window refl there is))
