use Rattle.std.proofs.Common.{◌≡◌, None, Some, IsTrue, sym, subst, ◌∙◌}
use Rattle.rma_window.specs.Windows.{part_of}
use Rattle.rma_rules.specs.Access.{Access}
use Rattle.rma_rules.specs.Share.{MeetsPart, MeetsRun}
use Rattle.rma_rules.proofs.PartLemmas.{none_met, part_met}
use Rattle.rma_rules.proofs.part.meets_part.Goals as goal

pub returns-in_default : goal.returns-in_default
unfolding MeetsPart
returns-in_default c = (λ test. absurd (cc), λ is. let found = is.2 in absurd (cc (c.in_default.is)))

pub returns-in-Some-part : goal.returns-in-Some-part
returns-in-Some-part c =
    let a = c.args.a.now in
    let there : part_of c.args.windows.now c.in-Some.window a.memory ≡ Some c.in-Some-part.part = rw (← c.a.view_is) (sym c.part.ensures.part ∙ c.in-Some-part.is) in
    let met = part_met c.args.windows.now a c.args.window c.in-Some.window c.in-Some-part.part c.in-Some.is there in
    let told = rw c.run_of_part.ensures at
    (subst (λ (r : Access). (IsTrue c.meets_run.result → MeetsRun r.runs c.run_of_part.result) × (MeetsRun r.runs c.run_of_part.result → IsTrue c.meets_run.result)) c.a.view_is c.meets_run.ensures) in
    (λ test. met.0 (told.0 test), λ is. told.1 (met.1 is))

pub returns-in-None : goal.returns-in-None
returns-in-None c =
    let a = c.args.a.now in
    let there : part_of c.args.windows.now c.in-Some.window a.memory ≡ None = rw (← c.a.view_is) (sym c.part.ensures.part ∙ c.in-None.is) in
    (λ test. absurd (cc), λ is. absurd (none_met c.args.windows.now a c.args.window c.in-Some.window c.in-Some.is there is))
