-- Ranks that go in step.
use Rattle.std.proofs.Common.{◌≡◌, ◌+◌, ◌*◌, ◌<◌, ◌⊎◌, inl, inr, refl, sym, ap, arith, ⊎_elim}
use Rattle.std.proofs.lemmas.List.Elements.{All-contains}
use Rattle.rma_base.specs.declared.point.Point.{Point}
use Rattle.rma_link.specs.declared.links.Links.{Links}
use Rattle.rma_link.specs.Link.{IsMet, IsLinked}
use Rattle.rma_link.specs.Order.{IsDirectlyBefore, IsAtOrBefore, IsPossible}
use Rattle.rma_link.specs.Order.IsAtOrBefore.{at, before}
use Rattle.rma_link.proofs.OrderLemmas.{step_cases}
use Rattle.rma_walk.specs.Step.{AreInStep, IsEdgeOn, AreOfOneNumber}

module _ (links : Links) (step : AreInStep links) where
  linked_on : (p q : Point) → IsLinked links p q → p.pos < q.pos
  linked_on p q linked =
      ⊎_elim
      (λ edge. All-contains IsEdgeOn links.edges _ step.edges edge)
      (λ (met : IsMet links p q).
      let one : AreOfOneNumber met.meet.calls = All-contains (λ meet. AreOfOneNumber meet.calls) links.meets _ step.meets met.is_meet in
      let a : met.first.call ≡ one.number = All-contains (λ m. m.call ≡ one.number) met.meet.calls _ one.all met.has_first in
      let b : met.second.call ≡ one.number = All-contains (λ m. m.call ≡ one.number) met.meet.calls _ one.all met.has_second in
      let from : p.pos ≡ 2 * met.first.call = ap (λ t. t.pos) met.from_entry in
      let to : q.pos ≡ 2 * met.second.call + 1 = ap (λ t. t.pos) met.to_return in
      omega arith)
      linked

  directly_on : (p q : Point) → IsDirectlyBefore links p q → p.pos < q.pos
  directly_on p q direct =
      ⊎_elim
      (λ (own : (p.rank ≡ q.rank) × (q.pos ≡ p.pos + 1)). let next = own.1 in omega arith)
      (λ linked. linked_on p q linked)
      (step_cases links p q direct)

  not_back : {p q : Point} → IsAtOrBefore links p q → (p ≡ q) ⊎ (p.pos < q.pos)
  not_back at = inl refl
  not_back {p = p} {q = r} (before {q = q} first direct) =
      let on = directly_on q r direct in
      ⊎_elim
      (λ (same : p ≡ q). let pos : p.pos ≡ q.pos = ap (λ t. t.pos) same in inr (omega arith))
      (λ (less : p.pos < q.pos). inr (omega arith))
      (not_back first)

  -- such a run is possible
  pub in_step_is_possible : IsPossible links
  in_step_is_possible p (q, differ, there, back) =
      ⊎_elim
      (λ same. differ same)
      (λ (one : p.pos < q.pos). ⊎_elim
      (λ (same : q ≡ p). differ (sym same))
      (λ (two : q.pos < p.pos). absurd (omega arith))
      (not_back back))
      (not_back there)
