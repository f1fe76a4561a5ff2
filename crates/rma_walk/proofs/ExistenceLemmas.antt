-- Each run has an outcome.
use Rattle.std.proofs.Common.{◌≡◌, ℕ, zero, suc, ◌+◌, ◌*◌, ◌<◌, ◌≤◌, ◌⊎◌, inl, inr, Bool, true, false, List, [], ◌∷◌, ◌++◌, length, set, map, replicate, Option, Some, None, refl, sym, ap, subst, ◌∙◌, zero-add, arith, ⊎_elim}
use Rattle.std.specs.Prelude.{Contains, All, slice_index, slice_index_or}
use Rattle.std.specs.List.{range_with_len}
use Rattle.std.proofs.lemmas.Bool.{cases_eq, cases_lt, cases_Bool, false≢true}
use Rattle.std.proofs.lemmas.List.{get_or-set_other, length-set, length-replicate}
use Rattle.std.proofs.lemmas.List.Elements.{All-contains}
use Rattle.std.proofs.lemmas.List.FromFn.{length-map-range_with_len, get_or-map-range_with_len}
use Rattle.std.proofs.lemmas.Option.{slice_get-get_or}
use Rattle.rma_base.specs.declared.rank.Rank.{Rank}
use Rattle.rma_base.specs.declared.point.Point.{Point}
use Rattle.rma_link.specs.declared.edge.Edge.{Edge}
use Rattle.rma_link.specs.declared.meet.Member.{Member}
use Rattle.rma_link.specs.declared.meet.Meet.{Meet}
use Rattle.rma_link.specs.declared.links.Links.{Links}
use Rattle.rma_link.specs.Point.{entry, return_of}
use Rattle.rma_link.specs.Link.{IsMet, IsLinked}
use Rattle.rma_link.specs.Order.{IsAtOrBefore, IsAfterCycle}
use Rattle.rma_link.specs.Order.IsAtOrBefore.{at}
use Rattle.rma_link.specs.Within.{AreWithin}
use Rattle.rma_link.proofs.OrderLemmas.{same_point, at_or_before_trans, after_cycle_later, step_cases, linked_within}
use Rattle.rma_walk.specs.Outcome.{AreFirstImpossible, IsOutcome}
use Rattle.rma_walk.specs.declared.walked.Walked.{Walked}
use Rattle.rma_walk.specs.declared.walked.Walked.TheVariants.{Order, Stuck}
use Rattle.rma_walk.specs.inside.Run.{IsPassed, IsGathered, IsReady, IsBlocked, next_point}
use Rattle.rma_walk.specs.inside.Front.{IsFront}
use Rattle.rma_walk.specs.inside.Search.{IsSettled, work}
use Rattle.rma_walk.specs.inside.Stop.{stopped_at}
use Rattle.rma_walk.proofs.ListLemmas.{replicate_at, all_or_some, below_or_some}
use Rattle.rma_walk.proofs.FrontLemmas.{passed_on, front_at_start, front_more, whole_possible, whole_order}
use Rattle.rma_walk.proofs.FollowLemmas.{other_within, other_first, other_has_next, cycle_back}
use Rattle.rma_walk.proofs.WorkLemmas.{less_by_waiting, less_by_passing}
use Rattle.rma_walk.proofs.OutcomeLemmas.{firsts_of, cycle_of}

same_or_not : (p q : Point) → (p ≡ q) ⊎ (p ≡ q → ⊥)
same_or_not p q =
    let R : ℕ → Rank = λ r. record { 0 = r } in
    ⊎_elim
    (λ (ranks : p.rank.0 ≡ q.rank.0). ⊎_elim
    (λ (positions : p.pos ≡ q.pos). inl (same_point p q (ap R ranks) positions))
    (λ (differ : p.pos ≡ q.pos → ⊥). inr (λ same. differ (ap (λ t. t.pos) same)))
    (cases_eq p.pos q.pos))
    (λ (differ : p.rank.0 ≡ q.rank.0 → ⊥). inr (λ same. differ (ap (λ t. t.rank.0) same)))
    (cases_eq p.rank.0 q.rank.0)

passed_or_not : (next : List ℕ) (p : Point) → IsPassed next p ⊎ (IsPassed next p → ⊥)
passed_or_not next p =
    ⊎_elim
    (λ passed. inl passed)
    (λ (upto : slice_index next p.rank.0 ≤ p.pos). inr (λ passed. absurd (omega arith)))
    (cases_lt p.pos (slice_index next p.rank.0))

-- what leads to the next point of a rank is passed, or some of it is not
module _ (links : Links) (next : List ℕ) (rank : ℕ) where
  abbrev IsEdgePassed : Edge → Type 0
  IsEdgePassed e = e.to ≡ next_point next rank → IsPassed next e.from

  abbrev IsEdgeMissing : Edge → Type 0
  IsEdgeMissing e = (e.to ≡ next_point next rank) × (IsPassed next e.from → ⊥)

  edge_cases : (e : Edge) → IsEdgePassed e ⊎ IsEdgeMissing e
  edge_cases e =
      ⊎_elim
      (λ passed. inl (λ same. passed))
      (λ missing. ⊎_elim
      (λ here. inr (here, missing))
      (λ (there : e.to ≡ next_point next rank → ⊥). inl (λ same. absurd (there same)))
      (same_or_not e.to (next_point next rank)))
      (passed_or_not next e.from)

  abbrev IsLed : Member → Type 0
  IsLed m = next_point next rank ≡ return_of m.rank m.call

  abbrev IsMeetPassed : Meet → Type 0
  IsMeetPassed meet = (m : Member) → Contains meet.calls m → IsLed m → IsGathered next meet

  abbrev IsMeetMissing : Meet → Type 0
  IsMeetMissing meet = (first : Member) × (second : Member) × Contains meet.calls first × Contains meet.calls second × IsLed second × (IsPassed next (entry first.rank first.call) → ⊥)

  meet_cases : (meet : Meet) → IsMeetPassed meet ⊎ IsMeetMissing meet
  meet_cases meet =
      let E : Member → Type 0 = λ m. IsPassed next (entry m.rank m.call) in
      let N : Member → Type 0 = λ m. IsLed m → ⊥ in
      ⊎_elim
      (λ (gathered : IsGathered next meet). inl (λ m has led. gathered))
      (λ (missing : (m : Member) × Contains meet.calls m × (E m → ⊥)). ⊎_elim
      (λ (none : All N meet.calls). inl (λ m has led. absurd (All-contains N meet.calls m none has led)))
      (λ (second : (m : Member) × Contains meet.calls m × IsLed m). inr (missing.0, second.0, missing.1, second.1, second.2, missing.2))
      (all_or_some N IsLed (λ m. ⊎_elim (λ led. inr led) (λ not. inl not) (same_or_not (next_point next rank) (return_of m.rank m.call))) meet.calls))
      (all_or_some E (λ m. E m → ⊥) (λ m. passed_or_not next (entry m.rank m.call)) meet.calls)

  met_of : (meet : Meet) → Contains links.meets meet → (m : IsMeetMissing meet) → IsMet links (entry m.0.rank m.0.call) (next_point next rank)
  met_of meet has (first, second, has_first, has_second, led, missing) = record {
    meet = meet;
    first = first;
    second = second;
    is_meet = has;
    has_first = has_first;
    has_second = has_second;
    differ = λ same.
        let own : slice_index next second.rank.0 ≡ 2 * second.call + 1 = ap (λ r. slice_index next r) (sym (ap (λ p. p.rank.0) led)) ∙ ap (λ p. p.pos) led in
        let entered : IsPassed next (entry second.rank second.call) = omega arith in
        missing (subst (λ m. IsPassed next (entry m.rank m.call)) (sym same) entered);
    from_entry = refl;
    to_return = led;
  }

  linked_or_missing : ((p : Point) → IsLinked links p (next_point next rank) → IsPassed next p) ⊎ ((p : Point) × IsLinked links p (next_point next rank) × (IsPassed next p → ⊥))
  linked_or_missing =
      ⊎_elim
      (λ (edges : All IsEdgePassed links.edges). ⊎_elim
      (λ (meets : All IsMeetPassed links.meets). inl (λ p linked. ⊎_elim
      (λ edge. All-contains IsEdgePassed links.edges (record { from = p; to = next_point next rank }) edges edge refl)
      (λ (met : IsMet links p (next_point next rank)).
      let gathered : IsGathered next met.meet = All-contains IsMeetPassed links.meets met.meet meets met.is_meet met.second met.has_second met.to_return in
      let entered = All-contains (λ (m : Member). IsPassed next (entry m.rank m.call)) met.meet.calls met.first gathered met.has_first in
      subst (IsPassed next) (sym met.from_entry) entered)
      linked))
      (λ (some : (meet : Meet) × Contains links.meets meet × IsMeetMissing meet).
      let first = some.2.0 in
      inr (entry first.rank first.call, inr (met_of some.0 some.1 some.2), some.2.5))
      (all_or_some IsMeetPassed IsMeetMissing meet_cases links.meets))
      (λ (some : (e : Edge) × Contains links.edges e × IsEdgeMissing e).
      let E : Point → Type 0 = λ t. Contains links.edges (record { from = some.0.from; to = t }) in
      inr (some.0.from, inl (subst E some.2.0 some.1), some.2.1))
      (all_or_some IsEdgePassed IsEdgeMissing edge_cases links.edges)

-- a rank can pass its next point, or has to wait for another one
ready_or_blocked : (lens : List ℕ) (links : Links) → AreWithin lens links → (next : List ℕ) (rank : ℕ) → IsReady links next rank ⊎ ((other : ℕ) × IsBlocked lens links next rank other)
ready_or_blocked lens links within next rank =
    ⊎_elim
    (λ (all : (p : Point) → IsLinked links p (next_point next rank) → IsPassed next p). inl (λ p step. ⊎_elim
    (λ (own : (p.rank ≡ (next_point next rank).rank) × (slice_index next rank ≡ p.pos + 1)).
    let same : slice_index next p.rank.0 ≡ slice_index next rank = ap (λ (r : Rank). slice_index next r.0) own.0 in
    let pos = own.1 in
    omega arith)
    (λ linked. all p linked)
    (step_cases links p (next_point next rank) step)))
    (λ (some : (p : Point) × IsLinked links p (next_point next rank) × (IsPassed next p → ⊥)).
    inr (some.0.rank.0, ((linked_within lens links some.0 (next_point next rank) within some.1).1, (some.0, refl, some.1, some.2))))
    (linked_or_missing links next rank)

-- a rank is past its last call, or has to wait
abbrev IsHeld : List ℕ → Links → List ℕ → ℕ → Type 0
IsHeld lens links next r = (slice_index next r ≡ 2 * slice_index lens r) ⊎ ((other : ℕ) × IsBlocked lens links next r other)

abbrev IsReadyRank : List ℕ → Links → List ℕ → ℕ → Type 0
IsReadyRank lens links next r = (slice_index next r < 2 * slice_index lens r) × IsReady links next r

module _ (lens : List ℕ) (links : Links) (within : AreWithin lens links) where
  -- points are passed as long as one can be
  held_front : (fuel : ℕ) (next : List ℕ) (order : List Point) → IsFront lens links next order → work lens next [] < fuel
      → (last : List ℕ) × (all : List Point) × IsFront lens links last all × ((r : ℕ) → r < length lens → IsHeld lens links last r)
  held_front zero next order front less = absurd (omega arith)
  held_front (suc fuel) next order front less =
      ⊎_elim
      (λ (held : (r : ℕ) → r < length lens → IsHeld lens links next r). (next, order, front, held))
      (λ (some : (r : ℕ) × (r < length lens) × IsReadyRank lens links next r).
      let r = some.0 in
      let there : r < length next = (let lt = some.1 in let size = front.ranks in omega arith) in
      let later : IsFront lens links (passed_on next r) (order ++ next_point next r ∷ []) = front_more lens links next order r front there some.2.0 some.2.1 in
      let smaller = less_by_passing lens next [] r (slice_index next r + 1) there (omega arith) front.ranks later.within later.ranks in
      held_front fuel (passed_on next r) (order ++ next_point next r ∷ []) later (omega arith))
      (below_or_some (IsHeld lens links next) (IsReadyRank lens links next)
      (λ r. ⊎_elim
      (λ (more : slice_index next r < 2 * slice_index lens r). ⊎_elim (λ ready. inr (more, ready)) (λ blocked. inl (inr blocked)) (ready_or_blocked lens links within next r))
      (λ (end : 2 * slice_index lens r ≤ slice_index next r). let bound = front.within r in let all : slice_index next r ≡ 2 * slice_index lens r = omega arith in inl (inl all))
      (cases_lt (slice_index next r) (2 * slice_index lens r)))
      (length lens))

  -- a rank that waits where nobody can pass comes after a cycle: the ranks that it waits for come back to one of them
  module _ (next : List ℕ) (held : (r : ℕ) → r < length lens → IsHeld lens links next r) where
    after_cycle : (fuel : ℕ) (free : List Bool) (current : ℕ) → work lens next free < fuel → length free ≡ length lens → current < length lens → slice_index next current < 2 * slice_index lens current
        → slice_index_or free current true ≡ true → ((r : ℕ) → slice_index_or free r true ≡ false → IsAtOrBefore links (next_point next current) (next_point next r)) → IsAfterCycle links (next_point next current)
    after_cycle zero free current less size there more is_free followed = absurd (omega arith)
    after_cycle (suc fuel) free current less size there more is_free followed =
        let taken : List Bool = set free current false in
        let still : (r : ℕ) → (r ≡ current → ⊥) → slice_index_or taken r true ≡ false → slice_index_or free r true ≡ false =
        λ r differs is. sym (get_or-set_other free current r false true differs) ∙ is in
        ⊎_elim
        (λ (end : slice_index next current ≡ 2 * slice_index lens current). absurd (omega arith))
        (λ (some : (other : ℕ) × IsBlocked lens links next current other).
        let other = some.0 in
        let first = other_first lens links next current within other some.1 in
        let smaller = less_by_waiting lens next free current (omega arith) is_free in
        ⊎_elim
        (λ (follow : slice_index_or taken other true ≡ true).
        let P : ℕ → Type 0 = λ c. IsAtOrBefore links (next_point next other) (next_point next c) in
        after_cycle_later links
        (after_cycle fuel taken other (omega arith) (length-set free current false ∙ size) (other_within lens links next current within other some.1)
        (other_has_next lens links next current within other some.1) follow
        (λ r is. ⊎_elim
        (λ (own : r ≡ current). subst P (sym own) first)
        (λ (differs : r ≡ current → ⊥). at_or_before_trans links first (followed r (still r differs is)))
        (cases_eq r current)))
        first)
        (λ (stop : slice_index_or taken other true ≡ false).
        let Q : ℕ → Type 0 = λ c. IsAtOrBefore links (next_point next current) (next_point next c) in
        cycle_back lens links next current within other some.1
        (⊎_elim
        (λ (own : other ≡ current). subst Q (sym own) at)
        (λ (differs : other ≡ current → ⊥). followed other (still other differs stop))
        (cases_eq other current)))
        (cases_Bool (slice_index_or taken other true)))
        (held current there)

    settled_rank : (r : ℕ) → r < length lens → (slice_index next r ≤ 2 * slice_index lens r) → IsSettled lens links next r
    settled_rank r there bound =
        let free : List Bool = replicate (length lens) true in
        ⊎_elim
        (λ end. inl end)
        (λ (some : (other : ℕ) × IsBlocked lens links next r other).
        let return = some.1.0 in
        let lt = return.1 in
        let odd : slice_index next r ≡ 2 * return.0 + 1 = return.2 in
        inr (
          return,
          after_cycle (work lens next free + 1) free r (omega arith) (length-replicate (length lens) true) there (omega arith) (replicate_at (length lens) r true)
              (λ q taken. absurd (false≢true (sym taken ∙ replicate_at (length lens) q true))),
        ))
        (held r there)

  settled_front : (next : List ℕ) × (order : List Point) × IsFront lens links next order × ((r : ℕ) → r < length lens → IsSettled lens links next r)
  settled_front =
      let start : List ℕ = replicate (length lens) 0 in
      let found = held_front (work lens start [] + 1) start [] (front_at_start lens links) (omega arith) in
      (found.0, found.1, found.2, λ r there. settled_rank found.0 found.3 r there (found.2.within r))

  -- where a rank stops
  abbrev stop_of : List ℕ → ℕ → Option ℕ
  stop_of next r = stopped_at (slice_index lens r) (slice_index next r)

  firsts_at : (next : List ℕ) (order : List Point) → IsFront lens links next order → ((r : ℕ) → r < length lens → IsSettled lens links next r)
      → AreFirstImpossible lens links (map (stop_of next) (range_with_len 0 (length lens)))
  firsts_at next order front settled =
      let stops : List (Option ℕ) = map (stop_of next) (range_with_len 0 (length lens)) in
      let size : length stops ≡ length lens = length-map-range_with_len (stop_of next) 0 (length lens) in
      firsts_of lens links next order front settled stops size
      (λ r lt. slice_get-get_or stops r None (omega arith) ∙ ap Some (get_or-map-range_with_len (stop_of next) 0 (length lens) r r None lt (zero-add r)))

  pub firsts_exist : (firsts : List (Option ℕ)) × AreFirstImpossible lens links firsts
  firsts_exist = let found = settled_front in (_, firsts_at found.0 found.1 found.2 found.3)

  pub outcome_exists : (walked : Walked) × IsOutcome lens links walked
  outcome_exists =
      let found = settled_front in
      let next = found.0 in
      let E : ℕ → Type 0 = λ r. slice_index next r ≡ 2 * slice_index lens r in
      ⊎_elim
      (λ (whole : (r : ℕ) → r < length lens → E r). (Order found.1, (whole_possible lens links next found.1 found.2 within whole, whole_order lens links next found.1 found.2 within whole)))
      (λ (part : (r : ℕ) × (r < length lens) × (E r → ⊥)).
      (Stuck (map (stop_of next) (range_with_len 0 (length lens))), (cycle_of lens links next part.0 (found.3 part.0 part.1) part.2, firsts_at next found.1 found.2 found.3)))
      (below_or_some E (λ r. E r → ⊥) (λ r. cases_eq (slice_index next r) (2 * slice_index lens r)) (length lens))
