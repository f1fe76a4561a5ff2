-- The points that a walk is past.
use Rattle.std.proofs.Common.{◌≡◌, ℕ, ◌+◌, ◌*◌, ◌<◌, ◌≤◌, ◌⊎◌, inl, inr, List, [], ◌∷◌, ◌++◌, length, set, replicate, Some, sym, ap, subst, ◌∙◌, arith, ⊎_elim}
use Rattle.std.specs.Prelude.{slice_index}
use Rattle.std.proofs.lemmas.Bool.{cases_eq, cases_lt}
use Rattle.std.proofs.lemmas.List.{get_or-set_same, get_or-set_other, length-set, length-replicate, get_or_past}
use Rattle.std.proofs.lemmas.Option.{none-some, same_Some, slice_get_within}
use Rattle.rma_base.specs.declared.rank.Rank.{Rank}
use Rattle.rma_base.specs.declared.point.Point.{Point}
use Rattle.rma_link.specs.declared.links.Links.{Links}
use Rattle.rma_link.specs.Point.{IsPoint}
use Rattle.rma_link.specs.Order.{IsDirectlyBefore, IsAtOrBefore, IsOnCycle, IsAfterCycle, IsPossible}
use Rattle.rma_link.specs.Order.IsAtOrBefore.{at, before}
use Rattle.rma_link.specs.Within.{AreWithin}
use Rattle.rma_link.proofs.OrderLemmas.{same_point, on_cycle_within}
use Rattle.rma_walk.specs.Outcome.{IsAt, IsOrder}
use Rattle.rma_walk.specs.inside.Run.{IsPassed, IsReady, next_point}
use Rattle.rma_walk.specs.inside.Front.{IsFront}
use Rattle.rma_walk.proofs.ListLemmas.{replicate_at, slice_get_front, slice_get_last, slice_get_push}

abbrev pub passed_on : List ℕ → ℕ → List ℕ
passed_on next rank = set next rank (slice_index next rank + 1)

pub passed_on_other : (next : List ℕ) (rank r : ℕ) → (r ≡ rank → ⊥) → slice_index (passed_on next rank) r ≡ slice_index next r
passed_on_other next rank r differs = get_or-set_other next rank r (slice_index next rank + 1) 0 differs

-- what is passed stays passed where a rank is past more points
pub passed_kept : (next : List ℕ) (rank pos : ℕ) → rank < length next → slice_index next rank < pos → (p : Point) → IsPassed next p → IsPassed (set next rank pos) p
passed_kept next rank pos there more p passed =
    ⊎_elim
    (λ (own : p.rank.0 ≡ rank).
    let now : slice_index (set next rank pos) p.rank.0 ≡ pos = ap (slice_index (set next rank pos)) own ∙ get_or-set_same next rank pos 0 there in
    let then : slice_index next p.rank.0 ≡ slice_index next rank = ap (slice_index next) own in
    omega arith)
    (λ (other : p.rank.0 ≡ rank → ⊥). subst (λ n. p.pos < n) (sym (get_or-set_other next rank p.rank.0 pos 0 other)) passed)
    (cases_eq p.rank.0 rank)

module _ (next : List ℕ) (rank : ℕ) (there : rank < length next) where
  pub passed_on_this : slice_index (passed_on next rank) rank ≡ slice_index next rank + 1
  passed_on_this = get_or-set_same next rank (slice_index next rank + 1) 0 there

  pub passed_this : IsPassed (passed_on next rank) (next_point next rank)
  passed_this = let now = passed_on_this in omega arith

  pub passed_cases : (p : Point) → IsPassed (passed_on next rank) p → IsPassed next p ⊎ (p ≡ next_point next rank)
  passed_cases p passed =
      ⊎_elim
      (λ (own : p.rank.0 ≡ rank).
      let now : slice_index (passed_on next rank) p.rank.0 ≡ slice_index next rank + 1 = ap (slice_index (passed_on next rank)) own ∙ passed_on_this in
      let then : slice_index next p.rank.0 ≡ slice_index next rank = ap (slice_index next) own in
      ⊎_elim
      (λ (less : p.pos < slice_index next rank). let lt : p.pos < slice_index next p.rank.0 = omega arith in inl lt)
      (λ (most : slice_index next rank ≤ p.pos).
      let R : ℕ → Rank = λ r. record { 0 = r } in
      inr (same_point p (next_point next rank) (ap R own) (omega arith)))
      (cases_lt p.pos (slice_index next rank)))
      (λ (other : p.rank.0 ≡ rank → ⊥). inl (subst (λ n. p.pos < n) (passed_on_other next rank p.rank.0 other) passed))
      (cases_eq p.rank.0 rank)

pub front_at_start : (lens : List ℕ) (links : Links) → IsFront lens links (replicate (length lens) 0) []
front_at_start lens links = record {
  ranks = length-replicate (length lens) 0;
  within = λ r. let none : slice_index (replicate (length lens) 0) r ≡ 0 = replicate_at (length lens) r 0 in omega arith;
  listed = λ p passed. let none : slice_index (replicate (length lens) 0) p.rank.0 ≡ 0 = replicate_at (length lens) p.rank.0 0 in absurd (omega arith);
  only = λ k p is. absurd (none-some p is);
  once = λ j k p one two. absurd (none-some p one);
  ordered = λ k p q is step. absurd (none-some q is);
}

module _ (lens : List ℕ) (links : Links) (next : List ℕ) (order : List Point) (rank : ℕ) (front : IsFront lens links next order) (there : rank < length next)
    (more : slice_index next rank < 2 * slice_index lens rank) (ready : IsReady links next rank) where
  more_listed : (p : Point) → IsPassed (passed_on next rank) p → (k : ℕ) × IsAt (order ++ next_point next rank ∷ []) k p
  more_listed p passed =
      ⊎_elim
      (λ old. let found = front.listed p old in (found.0, slice_get_front order (next_point next rank ∷ []) found.0 p found.1))
      (λ (new : p ≡ next_point next rank). (length order, slice_get_last order (next_point next rank) ∙ ap Some (sym new)))
      (passed_cases next rank there p passed)

  more_only : (k : ℕ) (p : Point) → IsAt (order ++ next_point next rank ∷ []) k p → IsPassed (passed_on next rank) p
  more_only k p is =
      ⊎_elim
      (λ old. passed_kept next rank (slice_index next rank + 1) there (omega arith) p (front.only k p old))
      (λ (new : (k ≡ length order) × (next_point next rank ≡ p)). subst (IsPassed (passed_on next rank)) new.1 (passed_this next rank there))
      (slice_get_push order (next_point next rank) k p is)

  not_twice : (k : ℕ) (p : Point) → IsAt order k p → next_point next rank ≡ p → ⊥
  not_twice k p is same =
      let early : IsPassed next (next_point next rank) = subst (IsPassed next) (sym same) (front.only k p is) in
      omega arith

  more_once : (j k : ℕ) (p : Point) → IsAt (order ++ next_point next rank ∷ []) j p → IsAt (order ++ next_point next rank ∷ []) k p → j ≡ k
  more_once j k p one two =
      ⊎_elim
      (λ one_old. ⊎_elim
      (λ two_old. front.once j k p one_old two_old)
      (λ (two_new : (k ≡ length order) × (next_point next rank ≡ p)). absurd (not_twice j p one_old two_new.1))
      (slice_get_push order (next_point next rank) k p two))
      (λ (one_new : (j ≡ length order) × (next_point next rank ≡ p)). ⊎_elim
      (λ two_old. absurd (not_twice k p two_old one_new.1))
      (λ (two_new : (k ≡ length order) × (next_point next rank ≡ p)). one_new.0 ∙ sym two_new.0)
      (slice_get_push order (next_point next rank) k p two))
      (slice_get_push order (next_point next rank) j p one)

  more_ordered : (k : ℕ) (p q : Point) → IsAt (order ++ next_point next rank ∷ []) k q → IsDirectlyBefore links p q → (j : ℕ) × (j < k) × IsAt (order ++ next_point next rank ∷ []) j p
  more_ordered k p q is step =
      ⊎_elim
      (λ old. let found = front.ordered k p q old step in (found.0, found.1, slice_get_front order (next_point next rank ∷ []) found.0 p found.2))
      (λ (new : (k ≡ length order) × (next_point next rank ≡ q)).
      let passed : IsPassed next p = ready p (subst (IsDirectlyBefore links p) (sym new.1) step) in
      let found = front.listed p passed in
      let lt : found.0 < length order = slice_get_within order found.0 p found.1 in
      let last = new.0 in
      (found.0, omega arith, slice_get_front order (next_point next rank ∷ []) found.0 p found.1))
      (slice_get_push order (next_point next rank) k q is)

  more_within : (r : ℕ) → slice_index (passed_on next rank) r ≤ 2 * slice_index lens r
  more_within r =
      ⊎_elim
      (λ (own : r ≡ rank).
      let now : slice_index (passed_on next rank) r ≡ slice_index next rank + 1 = ap (slice_index (passed_on next rank)) own ∙ passed_on_this next rank there in
      let bound : slice_index lens r ≡ slice_index lens rank = ap (slice_index lens) own in
      omega arith)
      (λ (other : r ≡ rank → ⊥). let same = passed_on_other next rank r other in let old = front.within r in omega arith)
      (cases_eq r rank)

  pub front_more : IsFront lens links (passed_on next rank) (order ++ next_point next rank ∷ [])
  front_more = record {
    ranks = length-set next rank _ ∙ front.ranks;
    within = more_within;
    listed = more_listed;
    only = more_only;
    once = more_once;
    ordered = more_ordered;
  }

-- what is before a point of the front stands before it in the front
pub before_in_front : (lens : List ℕ) (links : Links) (next : List ℕ) (order : List Point) → IsFront lens links next order → (k : ℕ) {p q : Point} → IsAt order k q → IsAtOrBefore links p q
    → (j : ℕ) × (j ≤ k) × IsAt order j p
before_in_front lens links next order front k is at = (k, omega arith, is)
before_in_front lens links next order front k {p = p} {q = r} is (before {q = q} first step) =
    let last = front.ordered k q r is step in
    let lt = last.1 in
    let rest = before_in_front lens links next order front last.0 last.2 first in
    let le = rest.1 in
    (rest.0, omega arith, rest.2)

pub passed_no_cycle : (lens : List ℕ) (links : Links) (next : List ℕ) (order : List Point) → IsFront lens links next order → (p : Point) → IsPassed next p → IsOnCycle links p → ⊥
passed_no_cycle lens links next order front p passed (q, differ, there, back) =
    let here = front.listed p passed in
    let one = before_in_front lens links next order front here.0 here.1 back in
    let two = before_in_front lens links next order front one.0 one.2 there in
    let round : two.0 ≡ here.0 = front.once two.0 here.0 p two.2 here.1 in
    let le = one.1 in
    let ge = two.1 in
    let same : one.0 ≡ here.0 = omega arith in
    let at : IsAt order here.0 q = subst (λ k. IsAt order k q) same one.2 in
    differ (same_Some p q (sym here.1 ∙ at))

pub passed_clear : (lens : List ℕ) (links : Links) (next : List ℕ) (order : List Point) → IsFront lens links next order → (p : Point) → IsPassed next p → IsAfterCycle links p → ⊥
passed_clear lens links next order front p passed (c, on, to) =
    let here = front.listed p passed in
    let first = before_in_front lens links next order front here.0 here.1 to in
    passed_no_cycle lens links next order front c (front.only first.0 c first.2) on

module _ (lens : List ℕ) (links : Links) (next : List ℕ) (order : List Point) (front : IsFront lens links next order) (within : AreWithin lens links)
    (whole : (r : ℕ) → r < length lens → slice_index next r ≡ 2 * slice_index lens r) where
  point_passed : (p : Point) → IsPoint lens p → IsPassed next p
  point_passed p is =
      ⊎_elim
      (λ (there : p.rank.0 < length lens). let end = whole p.rank.0 there in omega arith)
      (λ (past : length lens ≤ p.rank.0). let none : slice_index lens p.rank.0 ≡ 0 = get_or_past lens p.rank.0 0 past in absurd (omega arith))
      (cases_lt p.rank.0 (length lens))

  pub whole_possible : IsPossible links
  whole_possible p on = passed_no_cycle lens links next order front p (point_passed p (on_cycle_within lens links p within on)) on

  whole_ordered : (j k : ℕ) (p q : Point) → IsAt order j p → IsAt order k q → IsAtOrBefore links p q → j ≤ k
  whole_ordered j k p q one two le_before =
      let found = before_in_front lens links next order front k two le_before in
      let same : found.0 ≡ j = front.once found.0 j p found.2 one in
      let le = found.1 in
      omega arith

  pub whole_order : IsOrder lens links order
  whole_order = record {
    listed = λ p is. front.listed p (point_passed p is);
    only = λ k p is. let passed = front.only k p is in let bound = front.within p.rank.0 in omega arith;
    once = front.once;
    ordered = whole_ordered;
  }
