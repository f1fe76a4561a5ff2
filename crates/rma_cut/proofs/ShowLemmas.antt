-- What cuts show: neither of two accesses is before the other.
use Rattle.std.proofs.Common.{◌≡◌, ℕ, ◌<◌, ◌≤◌, inl, inr, List, sym, ap, arith, ⊎_elim}
use Rattle.std.proofs.lemmas.Bool.{cases_lt}
use Rattle.std.proofs.lemmas.List.Elements.{All-contains}
use Rattle.rma_base.specs.declared.point.Point.{Point}
use Rattle.rma_link.specs.declared.links.Links.{Links}
use Rattle.rma_link.specs.Point.{entry, return_of}
use Rattle.rma_link.specs.Order.{IsAtOrBefore, IsPossible}
use Rattle.rma_link.proofs.OrderLemmas.{at_or_before_trans, later_position}
use Rattle.rma_clock.specs.Reached.{IsReached}
use Rattle.rma_window.specs.Windows.{Window}
use Rattle.rma_window.specs.declared.window_id.WindowId.{WindowId}
use Rattle.rma_rules.specs.Access.{Access}
use Rattle.rma_rules.specs.Before.{Before, IsBeforeStart, IsMadeVisible, IsPublished}
use Rattle.rma_rules.specs.Spans.{Spans}
use Rattle.rma_rules.proofs.BeforeLemmas.{before_start_trans, entries_rise, returns_rise}
use Rattle.rma_rules.proofs.CaseLemmas.{by_published, by_start, by_visible, never_done}
use Rattle.rma_cut.specs.Cut.{IsClosed}
use Rattle.rma_cut.specs.Show.{HasStarts, IsNotBeforeIn, IsStoredThere, IsUnpublished, IsUnseen, ShowRace, Shows}
use Rattle.rma_cut.specs.declared.cuts.Cuts.{Cuts}
use Rattle.rma_cut.proofs.CallLemmas.{has_first, has_last}
use Rattle.rma_cut.proofs.NeedLemmas.{published_store}

-- a rank is at no point before one that comes earlier, where the run is possible
pub not_later : (links : Links) → IsPossible links → (p q : Point) → p.rank ≡ q.rank → IsAtOrBefore links p q → p.pos ≤ q.pos
not_later links possible p q ranks order =
    ⊎_elim
    (λ (later : q.pos < p.pos).
    let differ : p ≡ q → ⊥ = λ (same : p ≡ q). let at : p.pos ≡ q.pos = ap (λ (t : Point). t.pos) same in omega arith in
    absurd (possible p (q, differ, order, later_position links q p (sym ranks) (omega arith))))
    (λ (le : p.pos ≤ q.pos). le)
    (cases_lt q.pos p.pos)

module _ (links : Links) (windows : List Window) (spans : Spans) (a b : Access) (cut : List ℕ) (closed : IsClosed links cut) where
  -- a cut in which an access has started has what is before that
  started : HasStarts cut b → (p : Point) → IsBeforeStart links p b → IsReached cut p
  unfolding IsBeforeStart
  started starts p early = closed p early.0 early.2 (All-contains (IsReached cut) b.starts early.0 starts early.1)

  unseen : (window : WindowId) (done : Point) → IsUnseen spans a.memory window done b.call cut → IsMadeVisible links spans a.memory window done b.call → ⊥
  unfolding IsMadeVisible
  unseen window done un (v, listed, less, order) =
      let last = has_last spans a.memory window b.call v listed less in
      let rise = returns_rise links a.memory v last.0 (last.1.last v listed less) in
      un.lacks (closed done (return_of a.memory last.0) (at_or_before_trans links order rise) (un.returned last.0 last.1))

  unpublished : IsPossible links → (window : WindowId) (done : Point) → done.rank ≡ a.memory → IsUnpublished spans a.memory window done b cut → IsPublished links spans a.memory window done b → ⊥
  unfolding IsPublished
  unpublished possible window done there un (v, listed, order, early) =
      let first = has_first spans a.memory window done v listed (not_later links possible done (entry a.memory v) there order) in
      let rise = entries_rise links a.memory first.0 v (first.1.first v listed (not_later links possible done (entry a.memory v) there order)) in
      un.lacks first.0 first.1 (started un.starts (entry a.memory first.0) (before_start_trans links (entry a.memory first.0) (entry a.memory v) b rise early))

  -- in a closed cut of a possible run one access is not before another: it is so in the run
  pub not_before_in : IsPossible links → IsStoredThere a → IsNotBeforeIn windows spans a b cut → Before links windows spans a b → ⊥
  not_before_in possible there (inl (none, starts)) all = never_done links windows spans a b none all
  not_before_in possible there (inr (done, is, inl (window, needs, un))) all = unseen window done un ((by_visible links windows spans a b done is window needs).1 all)
  not_before_in possible there (inr (done, is, inr (inl (window, needs, un)))) all =
      unpublished possible window done (there done (published_store windows a b window needs) is) un ((by_published links windows spans a b done is window needs).1 all)
  not_before_in possible there (inr (done, is, inr (inr (neither, un)))) all = un.lacks (started un.starts done ((by_start links windows spans a b done is neither).1 all))

module _ (links : Links) (lens : List ℕ) (windows : List Window) (spans : Spans) (a b : Access) where
  -- one cut shows that one access is not before another
  pub shown_not_before : (cut : List ℕ) → Shows links lens windows spans a b cut → IsPossible links → IsStoredThere a → Before links windows spans a b → ⊥
  shown_not_before cut shown possible there = not_before_in links windows spans a b cut shown.closed possible there shown.not_before

-- and two that neither is before the other
pub shown_unordered : (links : Links) (lens : List ℕ) (windows : List Window) (spans : Spans) (a b : Access) (cuts : Cuts) → ShowRace links lens windows spans a b cuts → IsPossible links
    → IsStoredThere a → IsStoredThere b → (Before links windows spans a b → ⊥) × (Before links windows spans b a → ⊥)
shown_unordered links lens windows spans a b cuts shown possible one two = (
  shown_not_before links lens windows spans a b cuts.first shown.first possible one,
  shown_not_before links lens windows spans b a cuts.second shown.second possible two,
)
