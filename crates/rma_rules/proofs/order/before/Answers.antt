use Rattle.std.proofs.Common.{◌≡◌, ◌↔◌, IsTrue, None, Some, subst}
use Rattle.rma_rules.specs.Access.{Access}
use Rattle.rma_rules.specs.Before.{IsMadeVisible, IsPublished}
use Rattle.rma_rules.proofs.CaseLemmas.{by_published, by_start, by_visible, needs_neither, never_done, published_window, visible_window}
use Rattle.rma_rules.proofs.order.before.Goals as goal

pub returns-in_default : goal.returns-in_default
returns-in_default g c = λ points links are reached.
    let none : c.args.a.now.done ≡ None = rw (← c.a.view_is) c.in_default.is in
    (λ test. absurd (cc), λ all. absurd (never_done links c.args.windows.now c.args.spans.now c.args.a.now c.args.b.now none all))

pub is_made_visible-requires : goal.is_made_visible-requires
is_made_visible-requires g c =
    let some = c.requires.clocks in
    let done : c.args.a.now.done ≡ Some c.in-Some.done = rw (← c.a.view_is) c.in-Some.is in
    let window = c.in-Some-needs_visible.window in
    let through = visible_window c.args.windows.now c.args.a.now c.args.b.now window ((c.needs_visible.ensures window).0 c.in-Some-needs_visible.is) in
    (some.0, some.1, some.2, some.3.done c.in-Some.done done, rw (← c.a.view_is, ← c.b.view_is) at (some.3.visible window through))

pub returns-in-Some-needs_visible : goal.returns-in-Some-needs_visible
returns-in-Some-needs_visible g c = λ points links are reached.
    let a = c.args.a.now in
    let b = c.args.b.now in
    let spans = c.args.spans.now in
    let done : a.done ≡ Some c.in-Some.done = rw (← c.a.view_is) c.in-Some.is in
    let window = c.in-Some-needs_visible.window in
    let needs = (c.needs_visible.ensures window).0 c.in-Some-needs_visible.is in
    let through = visible_window c.args.windows.now a b window needs in
    let told = c.is_made_visible.ensures points links are (reached.done c.in-Some.done done) (rw (← c.a.view_is, ← c.b.view_is) at (reached.visible window through)) in
    let row : IsTrue c.is_made_visible.result ↔ IsMadeVisible links spans a.memory window c.in-Some.done b.call =
    subst (λ (r : Access). IsTrue c.is_made_visible.result ↔ IsMadeVisible links spans a.memory window c.in-Some.done r.call) c.b.view_is
    (subst (λ (r : Access). IsTrue c.is_made_visible.result ↔ IsMadeVisible links spans r.memory window c.in-Some.done c.b.inside.call) c.a.view_is told) in
    let case = by_visible links c.args.windows.now spans a b c.in-Some.done done window needs in
    (λ test. case.0 (row.0 test), λ all. row.1 (case.1 all))

pub is_published-requires : goal.is_published-requires
is_published-requires g c =
    let some = c.requires.clocks in
    let done : c.args.a.now.done ≡ Some c.in-Some.done = rw (← c.a.view_is) c.in-Some.is in
    let window = c.in-Some-needs_published.window in
    let through = published_window c.args.windows.now c.args.a.now c.args.b.now window ((c.needs_published.ensures window).0 c.in-Some-needs_published.is) in
    (some.0, some.1, some.2, some.3.done c.in-Some.done done, some.3.starts, rw (← c.a.view_is) at (some.3.publishing window through))

pub returns-in-Some-needs_published : goal.returns-in-Some-needs_published
returns-in-Some-needs_published g c = λ points links are reached.
    let a = c.args.a.now in
    let b = c.args.b.now in
    let spans = c.args.spans.now in
    let done : a.done ≡ Some c.in-Some.done = rw (← c.a.view_is) c.in-Some.is in
    let window = c.in-Some-needs_published.window in
    let needs = (c.needs_published.ensures window).0 c.in-Some-needs_published.is in
    let through = published_window c.args.windows.now a b window needs in
    let told = c.is_published.ensures points links are (reached.done c.in-Some.done done) reached.starts (rw (← c.a.view_is) at (reached.publishing window through)) in
    let row : IsTrue c.is_published.result ↔ IsPublished links spans a.memory window c.in-Some.done b =
    subst (λ (r : Access). IsTrue c.is_published.result ↔ IsPublished links spans r.memory window c.in-Some.done b) c.a.view_is told in
    let case = by_published links c.args.windows.now spans a b c.in-Some.done done window needs in
    (λ test. case.0 (row.0 test), λ all. row.1 (case.1 all))

pub returns : goal.returns
returns g c = λ points links are reached.
    let windows = c.args.windows.now in
    let a = c.args.a.now in
    let b = c.args.b.now in
    let done : a.done ≡ Some c.in-Some.done = rw (← c.a.view_is) c.in-Some.is in
    let neither =
    needs_neither windows a b (λ window needs. let found = (c.needs_visible.ensures window).1 needs in let none = c.in_default-needs_visible.is in cc)
    (λ window needs. let found = (c.needs_published.ensures window).1 needs in let none = c.in_default-needs_published.is in cc) in
    let row = c.is_before_start.ensures points links are (reached.done c.in-Some.done done) reached.starts in
    let case = by_start links windows c.args.spans.now a b c.in-Some.done done neither in
    (λ test. case.0 (row.0 test), λ all. row.1 (case.1 all))
