-- The three cases of what is before an access.
use Rattle.std.proofs.Common.{◌≡◌, ◌⊎◌, ◌↔◌, List, Some, None, inl, inr, sym, subst, ◌∙◌}
use Rattle.rma_base.specs.declared.point.Point.{Point}
use Rattle.rma_link.specs.declared.links.Links.{Links}
use Rattle.rma_window.specs.Windows.{Window}
use Rattle.rma_window.specs.declared.window_id.WindowId.{WindowId}
use Rattle.rma_rules.specs.Access.{Access}
use Rattle.rma_rules.specs.Share.{IsThroughSeparate}
use Rattle.rma_rules.specs.Spans.{Spans}
use Rattle.rma_rules.specs.Before.{Before, IsBeforeStart, IsDoneBefore, IsMadeVisible, IsPublished, NeedsNeither, NeedsPublished, NeedsVisible}
use Rattle.rma_rules.proofs.ConflictLemmas.{own_not_target}
use Rattle.rma_rules.proofs.PartLemmas.{same_some}

module _ (windows : List Window) (a b : Access) where
  pub visible_window : (window : WindowId) → NeedsVisible windows a b window → a.window ≡ Some window
  unfolding NeedsVisible IsThroughSeparate
  visible_window window needs = needs.2.0

  pub published_window : (window : WindowId) → NeedsPublished windows a b window → b.window ≡ Some window
  unfolding NeedsPublished IsThroughSeparate
  published_window window needs = needs.2.0

  -- no two accesses need both
  apart : (v w : WindowId) → NeedsVisible windows a b v → NeedsPublished windows a b w → ⊥
  unfolding NeedsVisible NeedsPublished
  apart v w one two = own_not_target b.kind one.1 two.1

  pub needs_neither : ((window : WindowId) → NeedsVisible windows a b window → ⊥) → ((window : WindowId) → NeedsPublished windows a b window → ⊥) → NeedsNeither windows a b
  unfolding NeedsNeither
  needs_neither one two = (one, two)

module _ (links : Links) (windows : List Window) (spans : Spans) (a b : Access) (done : Point) (is : a.done ≡ Some done) where
  -- an access is before another where it is done before that
  done_before : IsDoneBefore links windows spans a b done ↔ Before links windows spans a b
  unfolding Before
  done_before = (λ order. (done, is, order), λ all. subst (λ p. IsDoneBefore links windows spans a b p) (same_some all.0 done (sym all.1 ∙ is)) all.2)

  pub by_visible : (window : WindowId) → NeedsVisible windows a b window → IsMadeVisible links spans a.memory window done b.call ↔ Before links windows spans a b
  unfolding IsDoneBefore NeedsNeither
  by_visible window needs = (λ order. done_before.0 (inl (window, needs, order)), λ all. by (done_before.1 all))
    where
      by : ((w : WindowId) × NeedsVisible windows a b w × IsMadeVisible links spans a.memory w done b.call)
          ⊎ (((w : WindowId) × NeedsPublished windows a b w × IsPublished links spans a.memory w done b) ⊎ (NeedsNeither windows a b × IsBeforeStart links done b))
          → IsMadeVisible links spans a.memory window done b.call
      by (inl (w, own, order)) =
          let same : w ≡ window = same_some w window (sym (visible_window windows a b w own) ∙ visible_window windows a b window needs) in
          subst (λ v. IsMadeVisible links spans a.memory v done b.call) same order
      by (inr (inl (w, other, order))) = absurd (apart windows a b window w needs other)
      by (inr (inr (neither, order))) = absurd (neither.0 window needs)

  pub by_published : (window : WindowId) → NeedsPublished windows a b window → IsPublished links spans a.memory window done b ↔ Before links windows spans a b
  unfolding IsDoneBefore NeedsNeither
  by_published window needs = (λ order. done_before.0 (inr (inl (window, needs, order))), λ all. by (done_before.1 all))
    where
      by : ((w : WindowId) × NeedsVisible windows a b w × IsMadeVisible links spans a.memory w done b.call)
          ⊎ (((w : WindowId) × NeedsPublished windows a b w × IsPublished links spans a.memory w done b) ⊎ (NeedsNeither windows a b × IsBeforeStart links done b))
          → IsPublished links spans a.memory window done b
      by (inl (w, other, order)) = absurd (apart windows a b w window other needs)
      by (inr (inl (w, own, order))) =
          let same : w ≡ window = same_some w window (sym (published_window windows a b w own) ∙ published_window windows a b window needs) in
          subst (λ v. IsPublished links spans a.memory v done b) same order
      by (inr (inr (neither, order))) = absurd (neither.1 window needs)

  pub by_start : NeedsNeither windows a b → IsBeforeStart links done b ↔ Before links windows spans a b
  unfolding IsDoneBefore NeedsNeither
  by_start neither = (λ order. done_before.0 (inr (inr (neither, order))), λ all. by (done_before.1 all))
    where
      by : ((w : WindowId) × NeedsVisible windows a b w × IsMadeVisible links spans a.memory w done b.call)
          ⊎ (((w : WindowId) × NeedsPublished windows a b w × IsPublished links spans a.memory w done b) ⊎ (NeedsNeither windows a b × IsBeforeStart links done b))
          → IsBeforeStart links done b
      by (inl (w, own, order)) = absurd (neither.0 w own)
      by (inr (inl (w, own, order))) = absurd (neither.1 w own)
      by (inr (inr (own, order))) = order

-- an access that is never done is before none
pub never_done : (links : Links) (windows : List Window) (spans : Spans) (a b : Access) → a.done ≡ None → Before links windows spans a b → ⊥
unfolding Before
never_done links windows spans a b none all = let some = all.1 in cc
