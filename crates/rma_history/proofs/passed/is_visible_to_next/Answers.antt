use Rattle.std.proofs.Common.{◌≡◌, ℕ, refl, sym, subst}
use Rattle.rma_window.specs.declared.window_id.WindowId.{WindowId}
use Rattle.rma_rules.specs.Access.{Access}
use Rattle.rma_rules.specs.Before.{IsMadeVisible}
use Rattle.rma_rules.proofs.PartLemmas.{same_some}
use Rattle.rma_history.specs.History.{IsNextOf}
use Rattle.rma_history.proofs.passed.is_visible_to_next.Goals as goal

pub is_made_visible-requires : goal.is_made_visible-requires
is_made_visible-requires g c =
    let some = c.requires.clocks in
    let call = c.in-Some-next_call.call in
    (some.0, some.1, some.2, some.3, (some.4 c.a.inside.memory call ((c.in-Some-next_call.ensures call).0 refl)).1)

pub returns-in-Some-next_call : goal.returns-in-Some-next_call
returns-in-Some-next_call g c = λ points links are reached entered test id later update through next.
    let spans = c.args.lists.now in
    let window = c.in-Some.window in
    let call = c.in-Some-next_call.call in
    let known = (entered c.a.inside.memory call ((c.in-Some-next_call.ensures call).0 refl)).1 in
    let seen = (c.is_made_visible.ensures points links are reached known).0 test in
    let own = subst (λ (r : Access). IsNextOf c.args.next.now r.memory later) (sym c.a.view_is) next in
    let same_window : window ≡ id = same_some window id (c.in-Some.ensures id update through) in
    let same_call : call ≡ later = same_some call later ((c.in-Some-next_call.ensures later).1 own) in
    subst (λ (r : Access). IsMadeVisible links spans r.memory id c.args.done later) c.a.view_is
    (subst (λ (w : WindowId). IsMadeVisible links spans c.a.inside.memory w c.args.done later) same_window
    (subst (λ (n : ℕ). IsMadeVisible links spans c.a.inside.memory window c.args.done n) same_call seen))

pub returns-in-None : goal.returns-in-None
returns-in-None g c = λ points links are reached entered test id later update through next.
    let own = subst (λ (r : Access). IsNextOf c.args.next.now r.memory later) (sym c.a.view_is) next in
    absurd (let found = (c.in-None.ensures later).1 own in cc)
