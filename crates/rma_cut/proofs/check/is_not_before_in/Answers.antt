use Rattle.std.proofs.Common.{◌≡◌, ◌↔◌, IsTrue, Some, subst}
use Rattle.rma_rules.specs.Access.{Access}
use Rattle.rma_rules.proofs.CaseLemmas.{needs_neither}
use Rattle.rma_cut.specs.Show.{IsUnpublished, IsUnseen}
use Rattle.rma_cut.proofs.StateLemmas.{not_both, not_held, state_neither, state_published, state_visible}
use Rattle.rma_cut.proofs.check.is_not_before_in.Goals as goal

pub returns-in-Some-needs_visible : goal.returns-in-Some-needs_visible
returns-in-Some-needs_visible c =
    let a = c.args.a.now in
    let b = c.args.b.now in
    let spans = c.args.spans.now in
    let cut = c.args.cut.now in
    let done : a.done ≡ Some c.in-Some.done = rw (← c.a.view_is) c.in-Some.is in
    let window = c.in-Some-needs_visible.window in
    let needs = (c.needs_visible.ensures window).0 c.in-Some-needs_visible.is in
    let row : IsTrue c.is_unseen.result ↔ IsUnseen spans a.memory window c.in-Some.done b.call cut =
    subst (λ (r : Access). IsTrue c.is_unseen.result ↔ IsUnseen spans a.memory window c.in-Some.done r.call cut) c.b.view_is
    (subst (λ (r : Access). IsTrue c.is_unseen.result ↔ IsUnseen spans r.memory window c.in-Some.done c.b.inside.call cut) c.a.view_is c.is_unseen.ensures) in
    let case = state_visible c.args.windows.now spans a b cut c.in-Some.done done window needs in
    (λ test. case.0 (row.0 test), λ all. row.1 (case.1 all))

pub returns-in-Some-needs_published : goal.returns-in-Some-needs_published
returns-in-Some-needs_published c =
    let a = c.args.a.now in
    let b = c.args.b.now in
    let spans = c.args.spans.now in
    let cut = c.args.cut.now in
    let done : a.done ≡ Some c.in-Some.done = rw (← c.a.view_is) c.in-Some.is in
    let window = c.in-Some-needs_published.window in
    let needs = (c.needs_published.ensures window).0 c.in-Some-needs_published.is in
    let row : IsTrue c.is_unpublished.result ↔ IsUnpublished spans a.memory window c.in-Some.done b cut =
    subst (λ (r : Access). IsTrue c.is_unpublished.result ↔ IsUnpublished spans r.memory window c.in-Some.done b cut) c.a.view_is c.is_unpublished.ensures in
    let case = state_published c.args.windows.now spans a b cut c.in-Some.done done window needs in
    (λ test. case.0 (row.0 test), λ all. row.1 (case.1 all))

pub returns-then-has_starts : goal.returns-then-has_starts
returns-then-has_starts c =
    let windows = c.args.windows.now in
    let a = c.args.a.now in
    let b = c.args.b.now in
    let done : a.done ≡ Some c.in-Some.done = rw (← c.a.view_is) c.in-Some.is in
    let neither =
    needs_neither windows a b (λ window needs. let found = (c.needs_visible.ensures window).1 needs in let none = c.in_default-needs_visible.is in cc)
    (λ window needs. let found = (c.needs_published.ensures window).1 needs in let none = c.in_default-needs_published.is in cc) in
    let case = state_neither windows c.args.spans.now a b c.args.cut.now c.in-Some.done done neither in (
      λ test. case.0 (record { starts = c.has_starts-2.ensures.0 c.if-has_starts.true; lacks = λ there. not_both c.has_point.result test (c.has_point.ensures.1 there) }),
      λ all. not_held c.has_point.result (λ test. (case.1 all).lacks (c.has_point.ensures.0 test)),
    )
