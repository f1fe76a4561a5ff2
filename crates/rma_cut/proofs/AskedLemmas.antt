-- The points that show that an access is not before another.
use Rattle.std.proofs.Common.{◌≡◌, ◌⊎◌, ◌↔◌, inl, inr, ℕ, ◌*◌, ◌<◌, ◌≤◌, List, length, Contains, Option, Some, sym, ap, subst, ◌∙◌, arith, ⊎_elim}
use Rattle.std.specs.Prelude.{slice_index}
use Rattle.std.proofs.lemmas.Bool.{cases_lt}
use Rattle.std.proofs.lemmas.List.{length-map}
use Rattle.std.proofs.lemmas.List.Elements.{All-contains}
use Rattle.rma_base.specs.declared.rank.Rank.{Rank}
use Rattle.rma_base.specs.declared.point.Point.{Point}
use Rattle.rma_link.specs.declared.links.Links.{Links}
use Rattle.rma_link.specs.Point.{entry, return_of}
use Rattle.rma_link.specs.Order.{IsAtOrBefore}
use Rattle.rma_clock.specs.Reached.{IsReached, points_of}
use Rattle.rma_clock.proofs.ReachedLemmas.{in_reach, points_at}
use Rattle.rma_window.specs.Windows.{Window}
use Rattle.rma_window.specs.declared.window_id.WindowId.{WindowId}
use Rattle.rma_rules.specs.Access.{Access, starts_of}
use Rattle.rma_rules.specs.Before.{AreReached}
use Rattle.rma_rules.specs.Spans.{Spans}
use Rattle.rma_rules.proofs.BeforeLemmas.{has_entry, has_opening, start_cases}
use Rattle.rma_rules.proofs.CaseLemmas.{visible_window}
use Rattle.rma_rules.proofs.PartLemmas.{same_some}
use Rattle.rma_cut.specs.Cut.{IsClosed}
use Rattle.rma_cut.specs.Show.{IsAsked, IsLastVisible, IsLeast}
use Rattle.rma_cut.specs.declared.search.Asked.{Asked}
use Rattle.rma_cut.specs.inside.Asked.{HasAsked, IsBeforeAsked, IsCount, IsHeldBack}

module _ (windows : List Window) (spans : Spans) (a b : Access) where
  -- where a call has to make the first access visible, the return of the last one is asked for
  pub asked_return : (window : WindowId) → IsHeldBack windows a b window → (p : Point) → ((v : ℕ) × IsLastVisible spans a.memory window b.call v × (p ≡ return_of a.memory v)) ↔ IsAsked windows spans a b p
  asked_return window held p = (λ one. inl (held.0, window, one.0, held.1, held.2, one.1, one.2), λ asked. by asked)
    where
      by : IsAsked windows spans a b p → (v : ℕ) × IsLastVisible spans a.memory window b.call v × (p ≡ return_of a.memory v)
      by (inl (done, w, v, is, needs, last, at)) =
          let same : w ≡ window = same_some w window (sym (visible_window windows a b w needs) ∙ visible_window windows a b window held.2) in
          (v, subst (λ (u : WindowId). IsLastVisible spans a.memory u b.call v) same last, at)
      by (inr (free, start)) = absurd (free held.0 window held.1 held.2)

  -- and else the starts of the second
  pub asked_starts : ((window : WindowId) → IsHeldBack windows a b window → ⊥) → (p : Point) → Contains b.starts p ↔ IsAsked windows spans a b p
  asked_starts none p = (λ start. inr (λ done window is needs. none window (done, is, needs), start), λ asked. by asked)
    where
      by : IsAsked windows spans a b p → Contains b.starts p
      by (inl (done, w, v, is, needs, last, at)) = absurd (none w (done, is, needs))
      by (inr (free, start)) = start

  -- each of them is reached
  pub asked_reached : (points : List ℕ) → AreReached points spans a b → (p : Point) → IsAsked windows spans a b p → IsReached points p
  asked_reached points reached p (inl (done, w, v, is, needs, last, at)) =
      subst (IsReached points) (sym at) (reached.visible w (visible_window windows a b w needs) v last.listed last.before)
  asked_reached points reached p (inr (free, start)) = All-contains (IsReached points) b.starts p reached.starts start

-- the points at which an access may start
pub start_or_opening : (rank : Rank) (call : ℕ) (opening : Option Point) (p : Point) → ((Some (entry rank call) ≡ Some p) ⊎ (opening ≡ Some p)) ↔ Contains (starts_of rank call opening) p
start_or_opening rank call opening p = (
  λ one. ⊎_elim (λ (first : Some (entry rank call) ≡ Some p). subst (λ (q : Point). Contains (starts_of rank call opening) q) (same_some (entry rank call) p first) (has_entry rank call opening))
      (λ (second : opening ≡ Some p). has_opening rank call opening p second) one,
  λ start. ⊎_elim (λ (first : p ≡ entry rank call). inl (ap Some (sym first))) (λ (second : opening ≡ Some p). inr second) (start_cases rank call opening p start),
)

-- a cut with the points at or before those asked for is the least one
module _ (links : Links) (lens : List ℕ) (windows : List Window) (spans : Spans) (a b : Access) (asked : Asked) (same : (p : Point) → HasAsked asked p ↔ IsAsked windows spans a b p)
    (reached : AreReached (points_of lens) spans a b) (closed : IsClosed links (points_of lens)) (cut : List ℕ) (size : length cut ≡ length lens)
    (counts : (rank : ℕ) → rank < length lens → IsCount (IsBeforeAsked links asked) rank (2 * slice_index lens rank) (slice_index cut rank)) where
  before_asked : (p : Point) → IsReached cut p → (q : Point) × IsAsked windows spans a b q × IsAtOrBefore links p q
  before_asked p there =
      let rank : p.rank.0 < length cut = in_reach cut p there in
      let found = (counts p.rank.0 (omega arith)).before p.pos there in
      (found.0, (same found.0).0 found.1, found.2)

  has_before : (p : Point) → ((q : Point) × IsAsked windows spans a b q × IsAtOrBefore links p q) → IsReached cut p
  has_before p (q, asks, order) =
      let there : IsReached (points_of lens) p = closed p q order (asked_reached windows spans a b (points_of lens) reached q asks) in
      let in_points : p.rank.0 < length (points_of lens) = in_reach (points_of lens) p there in
      let sizes : length (points_of lens) ≡ length lens = length-map lens (λ calls. 2 * calls) in
      let rank : p.rank.0 < length lens = omega arith in
      let number : slice_index (points_of lens) p.rank.0 ≡ 2 * slice_index lens p.rank.0 = points_at lens p.rank.0 in
      let within : p.pos < slice_index (points_of lens) p.rank.0 = there in
      ⊎_elim (λ (lt : p.pos < slice_index cut p.rank.0). lt)
      (λ (past : slice_index cut p.rank.0 ≤ p.pos). absurd ((counts p.rank.0 rank).after p.pos past (omega arith) (q, (same q).1 asks, order)))
      (cases_lt p.pos (slice_index cut p.rank.0))

  pub counted_least : IsLeast links lens windows spans a b cut
  counted_least = record {
    is_cut = record { one_a_rank = size; within = λ rank lt. (counts rank lt).within };
    has = λ p. (before_asked p, has_before p);
  }
