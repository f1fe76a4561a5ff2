-- The least cuts: they show that neither of two accesses is before the other, where neither is, and there are no two.
use Rattle.std.proofs.Common.{◌≡◌, ℕ, ◌<◌, ◌≤◌, inl, inr, List, get_or, Contains, Option, Some, None, refl, sym, ap, subst, ◌∙◌, arith, ⊎_elim}
use Rattle.std.specs.Prelude.{slice_index}
use Rattle.std.proofs.lemmas.Bool.{cases_lt}
use Rattle.std.proofs.lemmas.Grind.{same_number_lists}
use Rattle.std.proofs.lemmas.List.Elements.{Contains-get_or}
use Rattle.rma_base.specs.declared.point.Point.{Point}
use Rattle.rma_link.specs.declared.links.Links.{Links}
use Rattle.rma_link.specs.Point.{entry, return_of}
use Rattle.rma_link.specs.Order.{IsAtOrBefore}
use Rattle.rma_link.specs.Order.IsAtOrBefore.{at}
use Rattle.rma_link.proofs.OrderLemmas.{at_or_before_trans, later_position}
use Rattle.rma_clock.specs.Reached.{IsReached}
use Rattle.rma_window.specs.Windows.{Window}
use Rattle.rma_window.specs.declared.window_id.WindowId.{WindowId}
use Rattle.rma_rules.specs.Access.{Access}
use Rattle.rma_rules.specs.Before.{Before, IsBeforeStart, IsMadeVisible, IsPublished, NeedsPublished, NeedsVisible}
use Rattle.rma_rules.specs.Spans.{Spans}
use Rattle.rma_rules.proofs.CaseLemmas.{by_published, by_start, by_visible, needs_neither}
use Rattle.rma_cut.specs.Cut.{IsClosed}
use Rattle.rma_cut.specs.Show.{AreLeast, HasStarts, IsAsked, IsFirstPublishing, IsLeast, IsNotBeforeIn, IsNotDone, IsNotYet, IsStoredThere, IsUnpublished, IsUnseen, ShowRace, Shows}
use Rattle.rma_cut.specs.declared.cuts.Cuts.{Cuts}
use Rattle.rma_cut.proofs.NeedLemmas.{apart, published_cases, published_store, visible_cases}

-- no call has to make the first access visible, if that is done
abbrev pub IsFree : List Window → Access → Access → Type 0
IsFree windows a b = (done : Point) → (window : WindowId) → a.done ≡ Some done → NeedsVisible windows a b window → ⊥

module _ (links : Links) (lens : List ℕ) (windows : List Window) (spans : Spans) (a b : Access) (cut : List ℕ) (least : IsLeast links lens windows spans a b cut) where
  pub least_closed : IsClosed links cut
  least_closed p q order there = let found = (least.has q).0 there in (least.has p).1 (found.0, found.1, at_or_before_trans links order found.2)

  asked_there : (q : Point) → IsAsked windows spans a b q → IsReached cut q
  asked_there q asked = (least.has q).1 (q, asked, at)

  starts_there : IsFree windows a b → HasStarts cut b
  starts_there free k d lt = asked_there (get_or b.starts k d) (inr (free, Contains-get_or b.starts k d lt))

  -- what such a cut has is before a start
  before_start : IsFree windows a b → (p : Point) → IsReached cut p → IsBeforeStart links p b
  unfolding IsBeforeStart
  before_start free p there =
      let found = (least.has p).0 there in
      ⊎_elim (λ seen. absurd (free seen.0 seen.1 seen.3 seen.4)) (λ (start : IsFree windows a b × Contains b.starts found.0). (found.0, start.1, found.2)) found.1

  module _ (done : Point) (is : a.done ≡ Some done) (apart_from : Before links windows spans a b → ⊥) where
    not_seen : (window : WindowId) → NeedsVisible windows a b window → IsReached cut done → ⊥
    unfolding IsMadeVisible
    not_seen window needs there =
        let found = (least.has done).0 there in
        ⊎_elim
        (λ seen. apart_from
        ((by_visible links windows spans a b done is seen.1 seen.4).0 (seen.2, seen.5.listed, seen.5.before, subst (λ (t : Point). IsAtOrBefore links done t) seen.6 found.2)))
        (λ (start : IsFree windows a b × Contains b.starts found.0). start.0 done window is needs)
        found.1

    by_unseen : (window : WindowId) → NeedsVisible windows a b window → IsUnseen spans a.memory window done b.call cut
    by_unseen window needs = record {
      returned = λ v last. asked_there (return_of a.memory v) (inl (done, window, v, is, needs, last, refl));
      lacks = not_seen window needs;
    }

    not_published : IsStoredThere a → IsFree windows a b → (window : WindowId) → NeedsPublished windows a b window → (v : ℕ) → IsFirstPublishing spans a.memory window done v → IsReached cut (entry a.memory v) → ⊥
    unfolding IsPublished
    not_published own free window needs v first there =
        let order = later_position links done (entry a.memory v) (own done (published_store windows a b window needs) is) first.after in
        apart_from ((by_published links windows spans a b done is window needs).0 (v, first.listed, order, before_start free (entry a.memory v) there))

    by_unpublished : IsStoredThere a → (window : WindowId) → NeedsPublished windows a b window → IsUnpublished spans a.memory window done b cut
    by_unpublished own window needs =
        let free : IsFree windows a b = λ other seen is_done visible. apart windows a b seen window visible needs in
        record { starts = starts_there free; lacks = not_published own free window needs }

    by_neither : ((window : WindowId) → NeedsVisible windows a b window → ⊥) → ((window : WindowId) → NeedsPublished windows a b window → ⊥) → IsNotDone done b cut
    by_neither unseen unpublished =
        let free : IsFree windows a b = λ other seen is_done visible. unseen seen visible in
        record {
          starts = starts_there free;
          lacks = λ there. apart_from ((by_start links windows spans a b done is (needs_neither windows a b unseen unpublished)).0 (before_start free done there));
        }

    not_yet : IsStoredThere a → IsNotYet windows spans a b done cut
    not_yet own =
        ⊎_elim
        (λ (seen : (window : WindowId) × NeedsVisible windows a b window). inl (seen.0, seen.1, by_unseen seen.0 seen.1))
        (λ (unseen : (window : WindowId) → NeedsVisible windows a b window → ⊥). ⊎_elim
        (λ (published : (window : WindowId) × NeedsPublished windows a b window). inr (inl (published.0, published.1, by_unpublished own published.0 published.1)))
        (λ (unpublished : (window : WindowId) → NeedsPublished windows a b window → ⊥). inr (inr (needs_neither windows a b unseen unpublished, by_neither unseen unpublished)))
        (published_cases windows a b))
        (visible_cases windows a b)

  least_not_before : IsStoredThere a → (Before links windows spans a b → ⊥) → (end : Option Point) → a.done ≡ end → IsNotBeforeIn windows spans a b cut
  least_not_before own apart_from None none = inl (none, starts_there (λ done window is needs. let no : ⊥ = absurd (cc) in no))
  least_not_before own apart_from (Some done) is = inr (done, is, not_yet done is apart_from own)

  -- the least cut shows that an access is not before another, where it is not
  pub least_shows : IsStoredThere a → (Before links windows spans a b → ⊥) → Shows links lens windows spans a b cut
  least_shows own apart_from = record {
    is_cut = least.is_cut;
    closed = least_closed;
    not_before = least_not_before own apart_from a.done refl;
  }

-- and two of them that neither is before the other
pub least_show_race : (links : Links) (lens : List ℕ) (windows : List Window) (spans : Spans) (a b : Access) (cuts : Cuts) → AreLeast links lens windows spans a b cuts → IsStoredThere a → IsStoredThere b
    → (Before links windows spans a b → ⊥) → (Before links windows spans b a → ⊥) → ShowRace links lens windows spans a b cuts
least_show_race links lens windows spans a b cuts least one two first second = record {
  first = least_shows links lens windows spans a b cuts.first least.first one first;
  second = least_shows links lens windows spans b a cuts.second least.second two second;
}

-- ---- there are no two

module _ (links : Links) (lens : List ℕ) (windows : List Window) (spans : Spans) (a b : Access) where
  least_within : (cut other : List ℕ) → IsLeast links lens windows spans a b cut → IsLeast links lens windows spans a b other → (rank : ℕ) → slice_index cut rank ≤ slice_index other rank
  least_within cut other one two rank =
      ⊎_elim
      (λ (more : slice_index other rank < slice_index cut rank).
      let p : Point = record { rank = record { 0 = rank }; pos = slice_index other rank } in
      let there : slice_index other rank < slice_index other rank = (two.has p).1 ((one.has p).0 more) in
      absurd (omega arith))
      (λ (le : slice_index cut rank ≤ slice_index other rank). le)
      (cases_lt (slice_index other rank) (slice_index cut rank))

  pub least_is_one : (cut other : List ℕ) → IsLeast links lens windows spans a b cut → IsLeast links lens windows spans a b other → cut ≡ other
  least_is_one cut other one two =
      same_number_lists cut other (one.is_cut.one_a_rank ∙ sym two.is_cut.one_a_rank)
      (λ k lt. let up = least_within cut other one two k in let down = least_within other cut two one k in omega (arith, up, down))

pub least_pair_is_one : (links : Links) (lens : List ℕ) (windows : List Window) (spans : Spans) (a b : Access) (cuts others : Cuts) → AreLeast links lens windows spans a b cuts
    → AreLeast links lens windows spans a b others → cuts ≡ others
least_pair_is_one links lens windows spans a b cuts others one two =
    let P : List ℕ → Cuts = λ first. record { first = first; second = cuts.second } in
    let Q : List ℕ → Cuts = λ second. record { first = others.first; second = second } in
    ap P (least_is_one links lens windows spans a b cuts.first others.first one.first two.first) ∙ ap Q (least_is_one links lens windows spans b a cuts.second others.second one.second two.second)
