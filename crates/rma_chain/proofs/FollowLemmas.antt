-- Accesses that follow one another: what is before them, and what comes after them.
use Rattle.std.proofs.Common.{◌≡◌, ◌≤◌, List, inl, inr, sym, ap, subst, ◌∙◌, arith}
use Rattle.rma_base.specs.declared.rank.Rank.{Rank}
use Rattle.rma_base.specs.declared.point.Point.{Point}
use Rattle.rma_link.specs.declared.links.Links.{Links}
use Rattle.rma_link.specs.Point.{entry}
use Rattle.rma_link.specs.Order.{IsAtOrBefore}
use Rattle.rma_link.proofs.OrderLemmas.{at_or_before_trans, later_position}
use Rattle.rma_window.specs.declared.window_id.WindowId.{WindowId}
use Rattle.rma_window.specs.Windows.{Window}
use Rattle.rma_rules.specs.Access.{Access}
use Rattle.rma_rules.specs.Before.{Before, IsBeforeStart, IsDoneBefore, IsMadeVisible, IsPublished, NeedsNeither, NeedsPublished, NeedsVisible}
use Rattle.rma_rules.specs.Kind.{is_own, is_store, is_target, is_update}
use Rattle.rma_rules.specs.Share.{IsThroughSeparate}
use Rattle.rma_rules.specs.Spans.{Spans}
use Rattle.rma_chain.specs.Chain.{IsFollowedBy, IsNoLater}

-- ---- what one of two that do the same needs, the other needs too

module _ (windows : List Window) (a other b : Access) (kind : a.kind ≡ other.kind) (window : a.window ≡ other.window) where
  visible_first : (w : WindowId) → NeedsVisible windows a b w → NeedsVisible windows other b w
  unfolding NeedsVisible IsThroughSeparate
  visible_first w needs = (ap is_update (sym kind) ∙ needs.0, needs.1, (sym window ∙ needs.2.0, needs.2.1))

  published_first : (w : WindowId) → NeedsPublished windows a b w → NeedsPublished windows other b w
  unfolding NeedsPublished
  published_first w needs = (ap is_store (sym kind) ∙ needs.0, needs.1, needs.2)

  visible_second : (w : WindowId) → NeedsVisible windows b a w → NeedsVisible windows b other w
  unfolding NeedsVisible
  visible_second w needs = (needs.0, ap is_own (sym kind) ∙ needs.1, needs.2)

  published_second : (w : WindowId) → NeedsPublished windows b a w → NeedsPublished windows b other w
  unfolding NeedsPublished IsThroughSeparate
  published_second w needs = (needs.0, ap is_target (sym kind) ∙ needs.1, (sym window ∙ needs.2.0, needs.2.1))

module _ (links : Links) (windows : List Window) (spans : Spans) (a next : Access) (follows : IsFollowedBy a next) where
  same_kind : a.kind ≡ next.kind
  same_kind = ap (λ d. d.kind) follows.deeds

  same_window : a.window ≡ next.window
  same_window = ap (λ d. d.window) follows.deeds

  pub same_memory : a.memory ≡ next.memory
  same_memory = ap (λ d. d.memory) follows.deeds

  no_later : (p q : Point) → IsNoLater p q → IsAtOrBefore links p q
  no_later p q less = later_position links p q less.0 less.1

  -- ---- what is before another access

  module _ (b : Access) (p q : Point) (order : IsAtOrBefore links p q) where
    visible_sooner : (w : WindowId) → IsMadeVisible links spans next.memory w q b.call → IsMadeVisible links spans a.memory w p b.call
    unfolding IsMadeVisible
    visible_sooner w (v, there, less, seen) = subst (λ (m : Rank). IsMadeVisible links spans m w p b.call) (sym same_memory) (v, there, less, at_or_before_trans links order seen)

    published_sooner : (w : WindowId) → IsPublished links spans next.memory w q b → IsPublished links spans a.memory w p b
    unfolding IsPublished
    published_sooner w (v, there, entered, start) = subst (λ (m : Rank). IsPublished links spans m w p b) (sym same_memory) (v, there, at_or_before_trans links order entered, start)

    started_sooner : IsBeforeStart links q b → IsBeforeStart links p b
    unfolding IsBeforeStart
    started_sooner (start, there, after) = (start, there, at_or_before_trans links order after)

    neither_sooner : NeedsNeither windows next b → NeedsNeither windows a b
    unfolding NeedsNeither
    neither_sooner neither = (
      λ w needs. neither.0 w (visible_first windows a next b same_kind same_window w needs),
      λ w needs. neither.1 w (published_first windows a next b same_kind same_window w needs),
    )

    done_sooner : IsDoneBefore links windows spans next b q → IsDoneBefore links windows spans a b p
    unfolding IsDoneBefore
    done_sooner (inl (w, needs, seen)) = inl (w, visible_first windows next a b (sym same_kind) (sym same_window) w needs, visible_sooner w seen)
    done_sooner (inr (inl (w, needs, published))) = inr (inl (w, published_first windows next a b (sym same_kind) (sym same_window) w needs, published_sooner w published))
    done_sooner (inr (inr (neither, started))) = inr (inr (neither_sooner neither, started_sooner started))

  pub earlier_before : (b : Access) → Before links windows spans next b → Before links windows spans a b
  unfolding Before
  earlier_before b (q, is, order) =
      let done = follows.done q is in
      (done.0, done.1, done_sooner b done.0 q (no_later done.0 q done.2) order)

  -- ---- what comes after another access

  module _ (b : Access) (p : Point) where
    visible_longer : (w : WindowId) → IsMadeVisible links spans b.memory w p a.call → IsMadeVisible links spans b.memory w p next.call
    unfolding IsMadeVisible
    visible_longer w (v, there, less, seen) = let later : a.call ≤ next.call = follows.calls in (v, there, omega arith, seen)

    started_later : (from : Point) → IsBeforeStart links from a → IsBeforeStart links from next
    unfolding IsBeforeStart
    started_later from (start, there, order) =
        let later = follows.starts start there in
        (later.0, later.1, at_or_before_trans links order (no_later start later.0 later.2))

    published_longer : (w : WindowId) → IsPublished links spans b.memory w p a → IsPublished links spans b.memory w p next
    unfolding IsPublished
    published_longer w (v, there, entered, started) = (v, there, entered, started_later (entry b.memory v) started)

    neither_longer : NeedsNeither windows b a → NeedsNeither windows b next
    unfolding NeedsNeither
    neither_longer neither = (
      λ w needs. neither.0 w (visible_second windows next a b (sym same_kind) (sym same_window) w needs),
      λ w needs. neither.1 w (published_second windows next a b (sym same_kind) (sym same_window) w needs),
    )

    done_longer : IsDoneBefore links windows spans b a p → IsDoneBefore links windows spans b next p
    unfolding IsDoneBefore
    done_longer (inl (w, needs, seen)) = inl (w, visible_second windows a next b same_kind same_window w needs, visible_longer w seen)
    done_longer (inr (inl (w, needs, published))) = inr (inl (w, published_second windows a next b same_kind same_window w needs, published_longer w published))
    done_longer (inr (inr (neither, started))) = inr (inr (neither_longer neither, started_later p started))

  pub later_after : (b : Access) → Before links windows spans b a → Before links windows spans b next
  unfolding Before
  later_after b (p, is, order) = (p, is, done_longer b p order)
