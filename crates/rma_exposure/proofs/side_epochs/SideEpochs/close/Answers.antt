use Rattle.std.proofs.Common.{◌≡◌, length, Some, None, cond, nat_eq, refl, sym, ap, ◌∙◌, ◌<◌, subst, arith}
use Rattle.std.specs.Prelude.{Option, option_map}
use Rattle.std.specs.Map.{lookup}
use Rattle.rma_exposure.specs.declared.opened.Opened.{Opened}
use Rattle.rma_exposure.specs.inside.Epochs.{kept, pending_in, is_pending, ended, close_at, AreInOrder}
use Rattle.rma_exposure.proofs.EpochLemmas.{AreEpochs_closed, none_closes, closes_before}
use Rattle.rma_exposure.proofs.CallLemmas.{opener_of_past}
use Rattle.rma_exposure.proofs.ClosedLemmas.{found_pushed, in_order_pushed}
use Rattle.rma_exposure.proofs.PlaceLemmas.{place_stays, same_stay}
use Rattle.rma_exposure.proofs.side_epochs.SideEpochs.close.Goals as goal

not_ended : (epoch : Option Opened) → epoch ≡ option_map (λ e. e) epoch
not_ended None = refl
not_ended (Some epoch) = refl

pub returns-in_default-clause-epochs : goal.returns-in_default-clause-epochs
returns-in_default-clause-epochs c = λ side calls call len opens closes are.
    let old = c.args.self.now in
    let none : pending_in (kept old.windows.entries c.args.window.now) ≡ None = sym c.close.ensures.opener ∙ c.in_default.is in
    AreEpochs_closed side calls call c.args.window.now old (record old { windows = c.close.new.windows }) opens closes c.close.ensures.numbers c.close.ensures.pending refl
    (λ number. not_ended (lookup (nat_eq number) old.openers.entries) ∙ ap (λ p. option_map (λ epoch. cond (is_pending p number) (ended (length calls) epoch) epoch) (lookup (nat_eq number) old.openers.entries)) (sym none))
    (λ number. none_closes side calls old are number ∙ sym (ap (λ p. cond (nat_eq (length calls) number) p (lookup (nat_eq number) old.closed)) none))
    are.closed_come
    are

pub returns-clause-epochs : goal.returns-clause-epochs
returns-clause-epochs c = λ side calls call len opens closes are.
    let pushed = c.in_ok-push.ensures.ok in
    let old = c.args.self.now in
    let close = c.args.number in
    let opener = c.in-Some.opener in
    let some : pending_in (kept old.windows.entries c.args.window.now) ≡ Some opener = sym c.close.ensures.opener ∙ c.in-Some.is in
    let to_come : lookup (nat_eq close) old.closed ≡ None = subst (λ n. lookup (nat_eq n) old.closed ≡ None) len (are.closed_are (length calls) ∙ opener_of_past side calls (length calls) (omega arith)) in
    AreEpochs_closed side calls call c.args.window.now old (record old { windows = c.close.new.windows; openers = c.end.new.openers; closed = c.push.new.self }) opens closes c.close.ensures.numbers c.close.ensures.pending c.end.ensures.keys
    (λ number.
    c.end.ensures.notes number
    ∙ ap (λ n. option_map (λ epoch. cond (nat_eq opener number) (ended n epoch) epoch) (lookup (nat_eq number) old.openers.entries)) (sym len)
    ∙ ap (λ p. option_map (λ epoch. cond (is_pending p number) (ended (length calls) epoch) epoch) (lookup (nat_eq number) old.openers.entries)) (sym some))
    (λ number.
    ap (lookup (nat_eq number)) pushed
    ∙ found_pushed old.closed close opener number to_come
    ∙ ap (λ n. cond (nat_eq n number) (Some opener) (lookup (nat_eq number) old.closed)) (sym len)
    ∙ sym (ap (λ p. cond (nat_eq (length calls) number) p (lookup (nat_eq number) old.closed)) some))
    (subst AreInOrder (sym pushed) (in_order_pushed old.closed close opener are.closed_come (λ i within. subst (λ n. close_at old.closed i < n) len (closes_before side calls old are i within))))
    are

pub returns-in_default-clause-place : goal.returns-in_default-clause-place
returns-in_default-clause-place c = place_stays c.args.self.now.windows.entries c.close.new.windows.entries c.args.window.now c.place_of-place.result c.close.ensures.names c.place_of-place.ensures

pub returns-in_default-clause-stay : goal.returns-in_default-clause-stay
returns-in_default-clause-stay c = same_stay c.args.self.now.windows.entries c.close.new.windows.entries c.close.ensures.names

pub returns-clause-place : goal.returns-clause-place
returns-clause-place c = place_stays c.args.self.now.windows.entries c.close.new.windows.entries c.args.window.now c.place_of-place.result c.close.ensures.names c.place_of-place.ensures

pub returns-clause-stay : goal.returns-clause-stay
returns-clause-stay c = same_stay c.args.self.now.windows.entries c.close.new.windows.entries c.close.ensures.names
