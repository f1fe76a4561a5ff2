-- The cases of a state in which an access is not yet complete and visible to another.
use Rattle.std.proofs.Common.{◌≡◌, ◌↔◌, inl, inr, ℕ, List, Bool, true, false, not, IsTrue, Some, refl, sym, subst, ◌∙◌}
use Rattle.rma_base.specs.declared.point.Point.{Point}
use Rattle.rma_window.specs.Windows.{Window}
use Rattle.rma_window.specs.declared.window_id.WindowId.{WindowId}
use Rattle.rma_rules.specs.Access.{Access}
use Rattle.rma_rules.specs.Before.{NeedsNeither, NeedsPublished, NeedsVisible}
use Rattle.rma_rules.specs.Spans.{Spans}
use Rattle.rma_rules.proofs.CaseLemmas.{published_window, visible_window}
use Rattle.rma_rules.proofs.PartLemmas.{same_some}
use Rattle.rma_cut.specs.Show.{IsNotBeforeIn, IsNotDone, IsNotYet, IsUnpublished, IsUnseen}
use Rattle.rma_cut.proofs.NeedLemmas.{apart}

pub not_both : (t : Bool) → IsTrue (not t) → IsTrue t → ⊥
not_both true test holds = absurd (cc)
not_both false test holds = absurd (cc)

pub not_held : (t : Bool) → (IsTrue t → ⊥) → IsTrue (not t)
not_held true fails = absurd (fails refl)
not_held false fails = refl

module _ (windows : List Window) (spans : Spans) (a b : Access) (cut : List ℕ) (done : Point) (is : a.done ≡ Some done) where
  -- an access that is done at a point is not before another by the case of that point
  not_yet_in : IsNotBeforeIn windows spans a b cut → IsNotYet windows spans a b done cut
  not_yet_in (inl (none, starts)) = absurd (cc)
  not_yet_in (inr (other, found, yet)) = subst (λ (p : Point). IsNotYet windows spans a b p cut) (same_some other done (sym found ∙ is)) yet

  pub state_visible : (window : WindowId) → NeedsVisible windows a b window → IsUnseen spans a.memory window done b.call cut ↔ IsNotBeforeIn windows spans a b cut
  unfolding NeedsNeither
  state_visible window needs = (λ un. inr (done, is, inl (window, needs, un)), λ all. by (not_yet_in all))
    where
      by : IsNotYet windows spans a b done cut → IsUnseen spans a.memory window done b.call cut
      by (inl (w, own, un)) =
          let same : w ≡ window = same_some w window (sym (visible_window windows a b w own) ∙ visible_window windows a b window needs) in
          subst (λ (v : WindowId). IsUnseen spans a.memory v done b.call cut) same un
      by (inr (inl (w, other, un))) = absurd (apart windows a b window w needs other)
      by (inr (inr (neither, un))) = absurd (neither.0 window needs)

  pub state_published : (window : WindowId) → NeedsPublished windows a b window → IsUnpublished spans a.memory window done b cut ↔ IsNotBeforeIn windows spans a b cut
  unfolding NeedsNeither
  state_published window needs = (λ un. inr (done, is, inr (inl (window, needs, un))), λ all. by (not_yet_in all))
    where
      by : IsNotYet windows spans a b done cut → IsUnpublished spans a.memory window done b cut
      by (inl (w, other, un)) = absurd (apart windows a b w window other needs)
      by (inr (inl (w, own, un))) =
          let same : w ≡ window = same_some w window (sym (published_window windows a b w own) ∙ published_window windows a b window needs) in
          subst (λ (v : WindowId). IsUnpublished spans a.memory v done b cut) same un
      by (inr (inr (neither, un))) = absurd (neither.1 window needs)

  pub state_neither : NeedsNeither windows a b → IsNotDone done b cut ↔ IsNotBeforeIn windows spans a b cut
  unfolding NeedsNeither
  state_neither neither = (λ un. inr (done, is, inr (inr (neither, un))), λ all. by (not_yet_in all))
    where
      by : IsNotYet windows spans a b done cut → IsNotDone done b cut
      by (inl (w, own, un)) = absurd (neither.0 w own)
      by (inr (inl (w, own, un))) = absurd (neither.1 w own)
      by (inr (inr (own, un))) = un
