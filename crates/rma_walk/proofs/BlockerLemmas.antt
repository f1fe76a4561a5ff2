-- What blocks the next point of a rank.
use Rattle.std.proofs.Common.{◌≡◌, ℕ, zero, suc, ◌+◌, ◌-◌, ◌*◌, ◌%◌, ◌<◌, ◌≤◌, ◌^◌, inl, inr, List, [], ◌∷◌, length, get_or, map, set, Some, refl, sym, ap, subst, ◌∙◌, arith, ⊎_elim}
use Rattle.std.specs.Prelude.{Contains, All, slice_get, slice_index, slice_index_or}
use Rattle.std.specs.List.Sorted.{IsStrictlyIncreasing}
use Rattle.std.proofs.lemmas.Bool.{cases_eq, cases_lt}
use Rattle.std.proofs.lemmas.List.{get_or-set_same, get_or-set_other, get_or_read, length-set, length-map}
use Rattle.std.proofs.lemmas.Option.{same_Some, slice_get_within, get_or_from_slice_get}
use Rattle.std.proofs.lemmas.List.Elements.{All-contains, All-nil, All-cons, Contains-get_or}
use Rattle.rma_base.specs.declared.rank.Rank.{Rank}
use Rattle.rma_base.specs.declared.point.Point.{Point}
use Rattle.rma_link.specs.declared.meet.Member.{Member}
use Rattle.rma_link.specs.declared.meet.Meet as meet
use Rattle.rma_link.specs.declared.links.Links.{Links}
use Rattle.rma_link.specs.Point.{entry, return_of}
use Rattle.rma_link.specs.Link.{IsMet, IsLinked}
use Rattle.rma_link.specs.Within.{IsEdgeWithin, IsMeetWithin}
use Rattle.rma_link.proofs.OrderLemmas.{same_point, step_cases, linked_within}
use Rattle.rma_walk.specs.declared.source.Source.{Source}
use Rattle.rma_walk.specs.declared.source.Source.TheVariants.{Entry, Meet}
use Rattle.rma_walk.specs.declared.pending.Pending.{Pending}
use Rattle.rma_walk.specs.inside.Run.{IsRun, AreReadable, IsPassed, IsGathered, IsReady, IsBlocked, next_point}
use Rattle.rma_walk.specs.Source.{IsEntryOf, sources_of}
use Rattle.rma_walk.specs.inside.Pending.{IsSource, IsSourcePassed, IsMissing, IsReduced, IsInbox, IsKnown, IsPending}
use Rattle.rma_walk.proofs.ListLemmas.{at_contains}
use Rattle.rma_walk.proofs.InboxLemmas.{get_or-map_in}
use Rattle.rma_walk.proofs.PendingLemmas.{in_ranks}

-- only its own member of a meet returns from a call
pub member_of : (rank call : ℕ) (m : Member) → return_of (record { 0 = rank }) call ≡ return_of m.rank m.call → m ≡ record { rank = record { 0 = rank }; call = call }
member_of rank call m same =
    let pos : 2 * call + 1 ≡ 2 * m.call + 1 = ap (λ p. p.pos) same in
    let number : m.call ≡ call = omega arith in
    let M : Rank → Member = λ r. record { rank = r; call = m.call } in
    let N : ℕ → Member = λ n. record { rank = record { 0 = rank }; call = n } in
    ap M (sym (ap (λ p. p.rank) same)) ∙ ap N number

-- a meet leads from the entry of one member to the return of another
pub met_by : (links : Links) (index : ℕ) (m : meet.Meet) (first second : Member) (p q : Point) → slice_get links.meets index ≡ Some m → Contains m.calls first → Contains m.calls second
    → (first ≡ second → ⊥) → p ≡ entry first.rank first.call → q ≡ return_of second.rank second.call → IsMet links p q
met_by links index m first second p q is has_first has_second differ from to = record {
  meet = m;
  first = first;
  second = second;
  is_meet = (index, slice_get_within links.meets index m is, get_or_from_slice_get links.meets index m m is);
  has_first = has_first;
  has_second = has_second;
  differ = differ;
  from_entry = from;
  to_return = to;
}

-- numbers that rise strictly are at least their indices, so there are no more than they allow
at_least : (xs : List ℕ) → IsStrictlyIncreasing xs → (k : ℕ) → k < length xs → k ≤ slice_index xs k
at_least xs rises zero lt = omega arith
at_least xs rises (suc k) lt =
    let more : suc k ≡ k + 1 = omega arith in
    let before = at_least xs rises k (omega arith) in
    let step : slice_index xs k < slice_index xs (k + 1) = rises k (omega arith) in
    let same : slice_index xs (suc k) ≡ slice_index xs (k + 1) = ap (slice_index xs) more in
    omega arith

members_within : (lens : List ℕ) (meet : meet.Meet) → IsMeetWithin lens meet → length meet.calls ≤ length lens
members_within lens meet within =
    let rank_of : Member → ℕ = λ m. m.rank.0 in
    ⊎_elim
    (λ (some : 0 < length meet.calls).
    let last : ℕ = length meet.calls - 1 in
    let d : Member = record { rank = record { 0 = 0 }; call = 0 } in
    let m = get_or meet.calls last d in
    let size : length (map rank_of meet.calls) ≡ length meet.calls = length-map meet.calls rank_of in
    let number = at_least (map rank_of meet.calls) within.1 last (omega arith) in
    let is : slice_index (map rank_of meet.calls) last ≡ m.rank.0 = get_or-map_in rank_of meet.calls last d 0 (omega arith) in
    let there : m.rank.0 < length lens = in_ranks lens m.rank.0 m.call (within.0 last d (omega arith)) in
    omega arith)
    (λ (none : length meet.calls ≤ 0). omega arith)
    (cases_lt 0 (length meet.calls))

pub readable_of : (lens : List ℕ) (links : Links) (n : ℕ) → IsRun lens links → n ≡ length lens → AreReadable n links
readable_of lens links n run size = record {
  edges = λ k d lt.
      let from = (run.within.edges k d lt).0 in
      let there = in_ranks lens (get_or links.edges k d).from.rank.0 from.0 from.1 in
      omega arith;
  meets = λ k d lt i e less.
      let call = (run.within.meets k d lt).0 i e less in
      let m = get_or (get_or links.meets k d).calls i e in
      let there : m.rank.0 < length lens = in_ranks lens m.rank.0 m.call call in
      let bound : slice_index lens m.rank.0 < 2 ^ 31 = run.calls m.rank.0 0 there in
      (omega arith, omega arith);
  sizes = λ k d lt. let few = members_within lens (get_or links.meets k d) (run.within.meets k d lt) in let ranks = run.ranks in omega arith;
}

module _ (lens : List ℕ) (links : Links) (next : List ℕ) (run : IsRun lens links) (size : length next ≡ length lens) (rank : ℕ) where
  -- at an entry nothing else comes first
  pub ready_at_entry : slice_index next rank % 2 ≡ 0 → IsReady links next rank
  ready_at_entry even p step =
      ⊎_elim
      (λ (own : (p.rank ≡ (next_point next rank).rank) × (slice_index next rank ≡ p.pos + 1)).
      let same : slice_index next p.rank.0 ≡ slice_index next rank = ap (λ (r : Rank). slice_index next r.0) own.0 in
      let pos = own.1 in
      omega arith)
      (λ linked.
      let return = (linked_within lens links p (next_point next rank) run.within linked).1 in
      let odd : slice_index next rank ≡ 2 * return.0 + 1 = return.2 in
      absurd (omega arith))
      (step_cases links p (next_point next rank) step)

  pub inbox_at : (pending : Pending) (inbox : List (List Source)) → IsPending lens links next pending → slice_index next rank < 2 * slice_index lens rank
      → inbox ≡ slice_index_or pending.inboxes.items rank inbox → IsInbox links next rank inbox
  inbox_at pending inbox is more read =
      let there : rank < length lens = in_ranks lens rank 0 (omega arith) in
      let all = is.size in
      subst (IsInbox links next rank) (sym (get_or_read pending.inboxes.items rank inbox (omega arith) read [])) (is.inboxes rank there)

  module _ (call : ℕ) (at : slice_index next rank ≡ 2 * call + 1) (inbox : List (List Source)) (own : IsInbox links next rank inbox) where
    here : next_point next rank ≡ return_of (record { 0 = rank }) call
    here = same_point (next_point next rank) (return_of (record { 0 = rank }) call) refl at

    -- where the sources that are left are passed, all that leads to the return is
    pub ready_at_return : All (IsSourcePassed links next) (sources_of inbox call) → IsReady links next rank
    ready_at_return sources p step =
        ⊎_elim
        (λ (same : (p.rank ≡ (next_point next rank).rank) × (slice_index next rank ≡ p.pos + 1)).
        let own_next : slice_index next p.rank.0 ≡ slice_index next rank = ap (λ (r : Rank). slice_index next r.0) same.0 in
        let pos = same.1 in
        omega arith)
        (λ linked. ⊎_elim
        (λ (edge : Contains links.edges (record { from = p; to = next_point next rank })).
        let E : Point → Type 0 = λ t. Contains links.edges (record { from = p; to = t }) in
        ⊎_elim
        (λ passed. passed)
        (λ left. All-contains (IsSourcePassed links next) (sources_of inbox call) (Entry p) sources left)
        (own.edges p call (subst E here edge)))
        (λ (met : IsMet links p (next_point next rank)).
        let found = at_contains links.meets met.meet met.is_meet in
        let second : met.second ≡ record { rank = record { 0 = rank }; call = call } = member_of rank call met.second (sym here ∙ met.to_return) in
        let gathered : IsGathered next met.meet = ⊎_elim
        (λ so. so)
        (λ left. All-contains (IsSourcePassed links next) (sources_of inbox call) (Meet found.0) sources left met.meet found.1)
        (own.meets found.0 met.meet call found.1 (subst (Contains met.meet.calls) second met.has_second)) in
        let passed : IsPassed next (entry met.first.rank met.first.call) =
        All-contains (λ (m : Member). IsPassed next (entry m.rank m.call)) met.meet.calls met.first gathered met.has_first in
        subst (IsPassed next) (sym met.from_entry) passed)
        linked)
        (step_cases links p (next_point next rank) step)

    pub ready_without : sources_of inbox call ≡ [] → IsReady links next rank
    ready_without none = ready_at_return (subst (All (IsSourcePassed links next)) (sym none) (All-nil (IsSourcePassed links next)))

    pub ready_gathered : (index : ℕ) → sources_of inbox call ≡ Meet index ∷ [] → IsSourcePassed links next (Meet index) → IsReady links next rank
    ready_gathered index one passed =
        let P : Source → Type 0 = IsSourcePassed links next in
        ready_at_return (subst (All P) (sym one) (All-cons P (Meet index) [] passed (All-nil P)))

    -- a source with an entry that is not passed blocks the return
    linked_from : (source : Source) → Contains (sources_of inbox call) source → (p : Point) → IsEntryOf links source p → (IsPassed next p → ⊥) → IsLinked links p (next_point next rank)
    linked_from (Entry from) has p is missing =
        let E : Point → Point → Type 0 = λ f t. Contains links.edges (record { from = f; to = t }) in
        inl (subst (λ f. E f (next_point next rank)) is (subst (E from) (sym here) (own.from_edge call from has)))
    linked_from (Meet index) has p (m, is_meet, (member, has_member, from)) missing =
        let found = own.from_meet call index has in
        let same : found.0 ≡ m = same_Some found.0 m (sym found.1 ∙ is_meet) in
        let me : Member = record { rank = record { 0 = rank }; call = call } in
        let differ : member ≡ me → ⊥ = λ alike.
        let p_is : p ≡ entry (record { 0 = rank }) call = from ∙ ap (λ (t : Member). entry t.rank t.call) alike in
        let passed : IsPassed next (entry (record { 0 = rank }) call) = omega arith in
        missing (subst (IsPassed next) (sym p_is) passed) in
        inr (met_by links index m member me p (next_point next rank) is_meet has_member (subst (λ (t : meet.Meet). Contains t.calls me) same found.2) differ from here)

    pub blocked_at_return : call < slice_index lens rank → (other : ℕ) (source : Source) → Contains (sources_of inbox call) source → IsMissing links next source other → IsBlocked lens links next rank other
    blocked_at_return lt other source has (p, of_rank, is, missing) = ((call, lt, at), (p, of_rank, linked_from source has p is missing, missing))

    source_fine : (source : Source) → Contains (sources_of inbox call) source → IsSource (length next) links source
    source_fine (Entry from) has =
        let within = (All-contains (IsEdgeWithin lens) links.edges _ run.within.edges (own.from_edge call from has)).0 in
        let there : from.rank.0 < length lens = in_ranks lens from.rank.0 within.0 within.1 in
        omega arith
    source_fine (Meet index) has = let found = own.from_meet call index has in slice_get_within links.meets index found.0 found.1

    pub meet_there : (index : ℕ) → sources_of inbox call ≡ Meet index ∷ [] → index < length links.meets
    meet_there index one = source_fine (Meet index) (subst (λ xs. Contains xs (Meet index)) (sym one) (0, omega arith, refl))

    pub sources_fine : All (IsSource (length next) links) (sources_of inbox call)
    sources_fine k d lt = source_fine (get_or (sources_of inbox call) k d) (Contains-get_or (sources_of inbox call) k d lt)

pub inbox_reduced : (links : Links) (next : List ℕ) (rank : ℕ) (old new : List (List Source)) → IsInbox links next rank old → IsReduced links next old new → IsInbox links next rank new
inbox_reduced links next rank old new own less = record {
  edges = λ from call has. ⊎_elim
      (λ passed. inl passed)
      (λ left. less.gone call (Entry from) left)
      (own.edges from call has);
  meets = λ index m call at has. ⊎_elim
      (λ gathered. inl gathered)
      (λ left. ⊎_elim (λ (passed : IsSourcePassed links next (Meet index)). inl (passed m at)) (λ still. inr still) (less.gone call (Meet index) left))
      (own.meets index m call at has);
  from_edge = λ call from has. own.from_edge call from (less.left call (Entry from) has);
  from_meet = λ call index has. own.from_meet call index (less.left call (Meet index) has);
}

-- what is passed stays passed
module _ (links : Links) (next later : List ℕ) (kept : (p : Point) → IsPassed next p → IsPassed later p) where
  gathered_later : (m : meet.Meet) → IsGathered next m → IsGathered later m
  gathered_later m gathered k d lt = kept _ (gathered k d lt)

  inbox_later : (rank : ℕ) (inbox : List (List Source)) → IsInbox links next rank inbox → IsInbox links later rank inbox
  inbox_later rank inbox own = record {
    edges = λ from call has. ⊎_elim (λ passed. inl (kept from passed)) (λ left. inr left) (own.edges from call has);
    meets = λ index m call at has. ⊎_elim (λ gathered. inl (gathered_later m gathered)) (λ left. inr left) (own.meets index m call at has);
    from_edge = own.from_edge;
    from_meet = own.from_meet;
  }

  pub pending_later : (lens : List ℕ) (pending : Pending) → IsPending lens links next pending → IsPending lens links later pending
  pending_later lens pending is = record {
    size = is.size;
    sizes = is.sizes;
    inboxes = λ r lt. inbox_later r (slice_index_or pending.inboxes.items r []) (is.inboxes r lt);
    known = record {
      size = is.known.size;
      entered = λ index m at. let so = is.known.entered index m at in (so.0, λ k d low high. kept _ (so.1 k d low high));
    };
  }

-- one inbox loses sources that are passed
pub pending_reduced : (lens : List ℕ) (links : Links) (next : List ℕ) (old new : Pending) (rank : ℕ) (inbox : List (List Source)) → IsPending lens links next old → rank < length lens
    → new.inboxes.items ≡ set old.inboxes.items rank inbox → IsReduced links next (slice_index_or old.inboxes.items rank []) inbox → IsKnown links next new.known.items → IsPending lens links next new
pending_reduced lens links next old new rank inbox is lt set_is less known =
    let size = is.size in
    let P : List (List Source) → ℕ → Type 0 = λ v r. (length v ≡ slice_index lens r) × IsInbox links next r v in
    let this : slice_index_or new.inboxes.items rank [] ≡ inbox = ap (λ xs. slice_index_or xs rank []) set_is ∙ get_or-set_same old.inboxes.items rank inbox [] (omega arith) in
    let other : (r : ℕ) → (r ≡ rank → ⊥) → slice_index_or new.inboxes.items r [] ≡ slice_index_or old.inboxes.items r [] =
    λ r differs. ap (λ xs. slice_index_or xs r []) set_is ∙ get_or-set_other old.inboxes.items rank r inbox [] differs in
    record {
      size = ap length set_is ∙ length-set old.inboxes.items rank inbox ∙ size;
      sizes = λ r. ⊎_elim
          (λ (here : r ≡ rank). ap (λ i. length (slice_index_or new.inboxes.items i [])) here ∙ ap length this ∙ less.size ∙ is.sizes rank ∙ ap (slice_index lens) (sym here))
          (λ (there : r ≡ rank → ⊥). ap length (other r there) ∙ is.sizes r)
          (cases_eq r rank);
      inboxes = λ r small. ⊎_elim
          (λ (here : r ≡ rank).
          let Q : ℕ → Type 0 = λ i. IsInbox links next i (slice_index_or new.inboxes.items i []) in
          subst Q (sym here) (subst (IsInbox links next rank) (sym this) (inbox_reduced links next rank (slice_index_or old.inboxes.items rank []) inbox (is.inboxes rank lt) less)))
          (λ (there : r ≡ rank → ⊥). subst (IsInbox links next r) (sym (other r there)) (is.inboxes r small))
          (cases_eq r rank);
      known = known;
    }
