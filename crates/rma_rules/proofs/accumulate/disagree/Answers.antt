use Rattle.std.proofs.Common.{◌↔◌, IsTrue, Some, subst}
use Rattle.rma_bytes.specs.Runs.{IsCanonical}
use Rattle.rma_rules.specs.Access.{Access}
use Rattle.rma_rules.specs.inside.Step.{Clash}
use Rattle.rma_rules.proofs.ElementLemmas.{differ, differ_at_clash}
use Rattle.rma_rules.proofs.accumulate.disagree.Goals as goal

pub returns-in-Some : goal.returns-in-Some
returns-in-Some c =
    let a = c.args.a.now in
    let b = c.args.b.now in
    let told = (c.element_of_both.ensures c.in-Some.element).0 c.in-Some.is in
    let good_a : IsCanonical a.runs = subst (λ (r : Access). IsCanonical r.runs) c.a.view_is c.len-first_in_order.ensures.canonical in
    let good_b : IsCanonical b.runs = subst (λ (r : Access). IsCanonical r.runs) c.b.view_is c.len-second_in_order.ensures.canonical in
    let at = differ_at_clash c.args.windows.now a b c.in-Some.element told.0 told.1 told.2 good_a good_b in
    let walked : IsTrue c.clash.result ↔ Clash (Some c.size.result) a.runs b.runs =
    subst (λ (r : Access). IsTrue c.clash.result ↔ Clash (Some c.size.result) a.runs r.runs) c.b.view_is
    (subst (λ (r : Access). IsTrue c.clash.result ↔ Clash (Some c.size.result) r.runs c.b.inside.bytes) c.a.view_is c.clash.ensures) in
    let sized = rw c.size.ensures at walked in
    (λ test. at.0 (sized.0 test), λ is. sized.1 (at.1 is))

pub returns-in-None : goal.returns-in-None
returns-in-None c =
    let at =
    differ c.args.windows.now c.args.a.now c.args.b.now (λ element both. let found = (c.element_of_both.ensures element).1 both in let none = c.in-None.is in cc) in
    (λ test. at.0 (c.share_byte.ensures.0 test), λ is. c.share_byte.ensures.1 (at.1 is))
