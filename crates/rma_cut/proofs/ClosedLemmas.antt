-- Cuts that are closed, by the links of a run.
use Rattle.std.proofs.Common.{◌≡◌, ℕ, ◌+◌, ◌*◌, ◌<◌, ◌≤◌, inl, inr, List, get_or, refl, sym, ap, subst, arith, ⊎_elim}
use Rattle.std.specs.Prelude.{All, Contains, slice_index}
use Rattle.std.proofs.lemmas.Bool.{cases_lt}
use Rattle.std.proofs.lemmas.List.Elements.{All-contains, Contains-get_or}
use Rattle.rma_base.specs.declared.rank.Rank.{Rank}
use Rattle.rma_base.specs.declared.point.Point.{Point}
use Rattle.rma_link.specs.declared.edge.Edge.{Edge}
use Rattle.rma_link.specs.declared.meet.Member.{Member}
use Rattle.rma_link.specs.declared.meet.Meet.{Meet}
use Rattle.rma_link.specs.declared.links.Links.{Links}
use Rattle.rma_link.specs.Link.{IsLinked, IsMet}
use Rattle.rma_link.specs.Order.{IsAtOrBefore, IsDirectlyBefore}
use Rattle.rma_link.specs.Order.IsAtOrBefore.{at, before}
use Rattle.rma_link.specs.Point.{calls_of, entry, IsEntry, return_of}
use Rattle.rma_link.specs.Within.{AreWithin}
use Rattle.rma_link.proofs.OrderLemmas.{directly_before, step_cases}
use Rattle.rma_clock.specs.Reached.{IsReached, points_of}
use Rattle.rma_clock.proofs.ReachedLemmas.{point_reached}
use Rattle.rma_cut.specs.Cut.{IsClosed}
use Rattle.rma_cut.specs.inside.Kept.{HasEntry, IsEdgeKept, IsMeetKept}

module _ (links : Links) (cut : List ℕ) where
  -- ---- from the links

  linked_kept : All (IsEdgeKept cut) links.edges → All (IsMeetKept cut) links.meets → (p q : Point) → IsLinked links p q → IsReached cut q → IsReached cut p
  linked_kept edges meets p q (inl edge) there = All-contains (IsEdgeKept cut) links.edges (record { from = p; to = q }) edges edge there
  linked_kept edges meets p q (inr met) there =
      let kept : IsMeetKept cut met.meet = All-contains (IsMeetKept cut) links.meets met.meet meets met.is_meet in
      let returned : IsReached cut (return_of met.second.rank met.second.call) = subst (IsReached cut) met.to_return there in
      let entered : HasEntry cut met.first = All-contains (HasEntry cut) met.meet.calls met.first (kept met.second met.has_second returned) met.has_first in
      subst (IsReached cut) (sym met.from_entry) entered

  step_kept : All (IsEdgeKept cut) links.edges → All (IsMeetKept cut) links.meets → (p q : Point) → IsDirectlyBefore links p q → IsReached cut q → IsReached cut p
  step_kept edges meets p q step there =
      ⊎_elim
      (λ (own : (p.rank ≡ q.rank) × (q.pos ≡ p.pos + 1)).
      let next : q.pos ≡ p.pos + 1 = own.1 in
      let same : slice_index cut p.rank.0 ≡ slice_index cut q.rank.0 = ap (λ (r : Rank). slice_index cut r.0) own.0 in
      let within : q.pos < slice_index cut q.rank.0 = there in
      omega arith)
      (λ (linked : IsLinked links p q). linked_kept edges meets p q linked there)
      (step_cases links p q step)

  order_kept : All (IsEdgeKept cut) links.edges → All (IsMeetKept cut) links.meets → {p q : Point} → IsAtOrBefore links p q → IsReached cut q → IsReached cut p
  order_kept edges meets at there = there
  order_kept edges meets (before {q = q} {r = r} first step) there = order_kept edges meets first (step_kept edges meets q r step there)

  -- a cut is closed where each link that leads to one of its points comes from one
  pub kept_closed : All (IsEdgeKept cut) links.edges → All (IsMeetKept cut) links.meets → IsClosed links cut
  kept_closed edges meets p q order there = order_kept edges meets order there

  -- ---- and back

  pub closed_edges : IsClosed links cut → All (IsEdgeKept cut) links.edges
  closed_edges closed k d lt there =
      let edge : Edge = get_or links.edges k d in
      closed edge.from edge.to (directly_before links (inr (inr (inl (Contains-get_or links.edges k d lt))))) there

  -- a member of a meet is entered where another one, or the member itself, has returned
  met_entered : IsClosed links cut → (meet : Meet) → Contains links.meets meet → (first second : Member) → Contains meet.calls first → Contains meet.calls second
      → IsReached cut (return_of second.rank second.call) → HasEntry cut first
  met_entered closed meet is_meet first second has_first has_second returned =
      ⊎_elim
      (λ (entered : 2 * first.call < slice_index cut first.rank.0). entered)
      (λ (lacks : slice_index cut first.rank.0 ≤ 2 * first.call).
      let differ : first ≡ second → ⊥ = λ (same : first ≡ second).
      let calls : first.call ≡ second.call = ap (λ (m : Member). m.call) same in
      let rows : slice_index cut first.rank.0 ≡ slice_index cut second.rank.0 = ap (λ (m : Member). slice_index cut m.rank.0) same in
      let within : 2 * second.call + 1 < slice_index cut second.rank.0 = returned in
      omega arith in
      let met : IsMet links (entry first.rank first.call) (return_of second.rank second.call) =
      record { meet = meet; first = first; second = second; is_meet = is_meet; has_first = has_first; has_second = has_second; differ = differ; from_entry = refl; to_return = refl } in
      closed (entry first.rank first.call) (return_of second.rank second.call) (directly_before links (inr (inr (inr met)))) returned)
      (cases_lt (2 * first.call) (slice_index cut first.rank.0))

  pub closed_meets : IsClosed links cut → All (IsMeetKept cut) links.meets
  closed_meets closed k d lt m there returned j e within =
      let meet : Meet = get_or links.meets k d in
      met_entered closed meet (Contains-get_or links.meets k d lt) (get_or meet.calls j e) m (Contains-get_or meet.calls j e within) there returned

-- ---- all points of a run

module _ (lens : List ℕ) (links : Links) (within : AreWithin lens links) where
  entry_in_run : (p : Point) → IsEntry lens p → IsReached (points_of lens) p
  entry_in_run p (call, lt, is) = let in_run : p.pos < 2 * calls_of lens p.rank = omega arith in point_reached lens p in_run

  -- they are closed
  pub run_closed : IsClosed links (points_of lens)
  run_closed =
      kept_closed links (points_of lens) (λ k d lt there. let edge : Edge = get_or links.edges k d in entry_in_run edge.from (within.edges k d lt).0)
      (λ k d lt m there returned j e at_j.
      let meet : Meet = get_or links.meets k d in
      let member : Member = get_or meet.calls j e in
      entry_in_run (entry member.rank member.call) (member.call, (within.meets k d lt).0 j e at_j, refl))
