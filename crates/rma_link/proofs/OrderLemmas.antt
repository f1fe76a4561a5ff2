-- The order of points.
use Rattle.std.proofs.Common.{◌≡◌, ℕ, zero, suc, ◌+◌, ◌-◌, ◌*◌, ◌/◌, ◌%◌, ◌<◌, ◌≤◌, ◌⊎◌, inl, inr, List, refl, sym, ap, subst, ◌∙◌, arith, ⊎_elim}
use Rattle.std.proofs.lemmas.Bool.{cases_lt}
use Rattle.std.proofs.lemmas.List.Elements.{All-contains}
use Rattle.rma_base.specs.declared.rank.Rank.{Rank}
use Rattle.rma_base.specs.declared.point.Point.{Point}
use Rattle.rma_link.specs.declared.links.Links.{Links}
use Rattle.rma_link.specs.Point.{entry, return_of, calls_of, IsPoint, IsEntry, IsReturn}
use Rattle.rma_link.specs.Link.{IsMet, IsLinked}
use Rattle.rma_link.specs.Order.{IsWithinCall, IsToNextCall, IsDirectlyBefore, IsAtOrBefore, IsOnCycle, IsAfterCycle}
use Rattle.rma_link.specs.Order.IsAtOrBefore.{at, before}
use Rattle.rma_link.specs.Within.{IsEdgeWithin, IsMemberWithin, IsMeetWithin, AreWithin}

pub same_point : (p q : Point) → p.rank ≡ q.rank → p.pos ≡ q.pos → p ≡ q
same_point p q ranks positions =
    let P : Rank → Point = λ r. record { rank = r; pos = p.pos } in
    let Q : ℕ → Point = λ k. record { rank = q.rank; pos = k } in
    ap P ranks ∙ ap Q positions

pub at_or_before_trans : (links : Links) {p q r : Point} → IsAtOrBefore links p q → IsAtOrBefore links q r → IsAtOrBefore links p r
at_or_before_trans links first at = first
at_or_before_trans links first (before second step) = before (at_or_before_trans links first second) step

pub directly_before : (links : Links) {p q : Point} → IsDirectlyBefore links p q → IsAtOrBefore links p q
directly_before links step = before at step

-- the next position of a rank comes directly after
pub next_position : (links : Links) (rank : Rank) (pos : ℕ) → IsDirectlyBefore links (record { rank = rank; pos = pos }) (record { rank = rank; pos = pos + 1 })
next_position links rank pos =
    ⊎_elim
    (λ (even : pos % 2 < 1).
    let is : pos ≡ 2 * (pos / 2) = omega arith in
    let P : Point = record { rank = rank; pos = pos } in
    let Q : Point = record { rank = rank; pos = pos + 1 } in
    let from : P ≡ entry rank (pos / 2) = same_point P (entry rank (pos / 2)) refl is in
    let to : Q ≡ return_of rank (pos / 2) = same_point Q (return_of rank (pos / 2)) refl (omega arith) in
    inl (rank, pos / 2, from, to))
    (λ (odd : 1 ≤ pos % 2).
    let is : pos ≡ 2 * (pos / 2) + 1 = omega arith in
    let P : Point = record { rank = rank; pos = pos } in
    let Q : Point = record { rank = rank; pos = pos + 1 } in
    let from : P ≡ return_of rank (pos / 2) = same_point P (return_of rank (pos / 2)) refl is in
    let to : Q ≡ entry rank (pos / 2 + 1) = same_point Q (entry rank (pos / 2 + 1)) refl (omega arith) in
    inr (inl (rank, pos / 2, from, to)))
    (cases_lt (pos % 2) 1)

later_by : (links : Links) (rank : Rank) (pos n : ℕ) → IsAtOrBefore links (record { rank = rank; pos = pos }) (record { rank = rank; pos = pos + n })
later_by links rank pos zero =
    subst (λ k. IsAtOrBefore links (record { rank = rank; pos = pos }) (record { rank = rank; pos = k })) (omega arith) at
later_by links rank pos (suc n) =
    let more : pos + n + 1 ≡ pos + suc n = omega arith in
    subst (λ k. IsAtOrBefore links (record { rank = rank; pos = pos }) (record { rank = rank; pos = k })) more
    (before (later_by links rank pos n) (next_position links rank (pos + n)))

-- a rank is at its points in their order
pub later_position : (links : Links) (p q : Point) → p.rank ≡ q.rank → p.pos ≤ q.pos → IsAtOrBefore links p q
later_position links p q ranks le =
    let far : p.pos + (q.pos - p.pos) ≡ q.pos = omega arith in
    let to : ◌≡◌ {A = Point} (record { rank = p.rank; pos = p.pos + (q.pos - p.pos) }) q = same_point _ q ranks far in
    subst (λ t. IsAtOrBefore links p t) to (later_by links p.rank p.pos (q.pos - p.pos))

-- a point comes directly before another one of its own rank, or a link says so
pub step_cases : (links : Links) (p q : Point) → IsDirectlyBefore links p q → ((p.rank ≡ q.rank) × (q.pos ≡ p.pos + 1)) ⊎ IsLinked links p q
step_cases links p q step =
    ⊎_elim
    (λ (one : IsWithinCall p q). inl (ap (λ t. t.rank) one.2 ∙ sym (ap (λ t. t.rank) one.3), ap (λ t. t.pos) one.3 ∙ ap (λ k. k + 1) (sym (ap (λ t. t.pos) one.2))))
    (λ rest. ⊎_elim
    (λ (one : IsToNextCall p q).
    let a : p.pos ≡ 2 * one.1 + 1 = ap (λ t. t.pos) one.2 in
    let b : q.pos ≡ 2 * (one.1 + 1) = ap (λ t. t.pos) one.3 in
    inl (ap (λ t. t.rank) one.2 ∙ sym (ap (λ t. t.rank) one.3), omega arith))
    (λ linked. inr linked)
    rest)
    step

-- links lead from entries to returns of the run
pub linked_within : (lens : List ℕ) (links : Links) (p q : Point) → AreWithin lens links → IsLinked links p q → IsEntry lens p × IsReturn lens q
linked_within lens links p q ok linked =
    ⊎_elim
    (λ edge. All-contains (IsEdgeWithin lens) links.edges _ ok.edges edge)
    (λ (met : IsMet links p q).
    let fine : IsMeetWithin lens met.meet = All-contains (IsMeetWithin lens) links.meets _ ok.meets met.is_meet in
    let one : IsMemberWithin lens met.first = All-contains (IsMemberWithin lens) met.meet.calls _ fine.0 met.has_first in
    let two : IsMemberWithin lens met.second = All-contains (IsMemberWithin lens) met.meet.calls _ fine.0 met.has_second in
    let P : IsEntry lens (entry met.first.rank met.first.call) = (met.first.call, one, refl) in
    let Q : IsReturn lens (return_of met.second.rank met.second.call) = (met.second.call, two, refl) in
    (subst (IsEntry lens) (sym met.from_entry) P, subst (IsReturn lens) (sym met.to_return) Q))
    linked

entry_is_point : (lens : List ℕ) (p : Point) → IsEntry lens p → IsPoint lens p
entry_is_point lens p one = let lt = one.1 in let is = one.2 in omega arith

-- what comes after a position past the calls of a rank is one too
past_the_end : (lens : List ℕ) (links : Links) {p q : Point} → AreWithin lens links → IsAtOrBefore links p q → 2 * calls_of lens p.rank ≤ p.pos
    → (q.rank ≡ p.rank) × (p.pos ≤ q.pos)
past_the_end lens links ok at past = (refl, omega arith)
past_the_end lens links {p = p} {q = r} ok (before {q = q} first step) past =
    let so = past_the_end lens links ok first past in
    let same : calls_of lens q.rank ≡ calls_of lens p.rank = ap (calls_of lens) so.0 in
    let beyond : p.pos ≤ q.pos = so.1 in
    ⊎_elim
    (λ (own : (q.rank ≡ r.rank) × (r.pos ≡ q.pos + 1)). let next = own.1 in (sym own.0 ∙ so.0, omega arith))
    (λ (linked : IsLinked links q r).
    let within : q.pos < 2 * calls_of lens q.rank = entry_is_point lens q (linked_within lens links q r ok linked).0 in
    absurd (omega arith))
    (step_cases links q r step)

-- a point on a cycle is one of the run
pub on_cycle_within : (lens : List ℕ) (links : Links) (p : Point) → AreWithin lens links → IsOnCycle links p → IsPoint lens p
on_cycle_within lens links p ok (q, differ, there, back) =
    ⊎_elim
    (λ (lt : p.pos < 2 * calls_of lens p.rank). lt)
    (λ (past : 2 * calls_of lens p.rank ≤ p.pos).
    let one = past_the_end lens links ok there past in
    let le : p.pos ≤ q.pos = one.1 in
    let same : calls_of lens q.rank ≡ calls_of lens p.rank = ap (calls_of lens) one.0 in
    let beyond : 2 * calls_of lens q.rank ≤ q.pos = omega arith in
    let two = past_the_end lens links ok back beyond in
    let ge : q.pos ≤ p.pos = two.1 in
    absurd (differ (same_point p q two.0 (omega arith))))
    (cases_lt p.pos (2 * calls_of lens p.rank))

pub after_cycle_later : (links : Links) {p q : Point} → IsAfterCycle links p → IsAtOrBefore links p q → IsAfterCycle links q
after_cycle_later links (c, on, to) more = (c, on, at_or_before_trans links to more)
