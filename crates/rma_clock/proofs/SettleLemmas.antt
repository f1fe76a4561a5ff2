-- Points that are settled in their order.
use Rattle.std.proofs.Common.{◌≡◌, ℕ, ◌+◌, ◌-◌, ◌*◌, ◌/◌, ◌%◌, ◌<◌, ◌≤◌, ◌^◌, inr, List, [], length, get_or, replicate, refl, sym, ap, subst, ◌∙◌, arith, ⊎_elim}
use Rattle.std.specs.Prelude.{All, Contains, slice_index, slice_index_or}
use Rattle.std.proofs.lemmas.Bool.{cases_lt}
use Rattle.std.proofs.lemmas.List.{length-map}
use Rattle.std.proofs.lemmas.List.Elements.{All-contains, Contains-get_or}
use Rattle.std.proofs.lemmas.Option.{same_Some, slice_get_within, get_or_from_slice_get}
use Rattle.rma_base.specs.declared.rank.Rank.{Rank}
use Rattle.rma_base.specs.declared.point.Point.{Point}
use Rattle.rma_link.specs.declared.links.Links.{Links}
use Rattle.rma_link.specs.Point.{entry, return_of, IsPoint, IsEntry}
use Rattle.rma_link.specs.Link.{IsLinked}
use Rattle.rma_link.specs.Order.{IsAtOrBefore, IsPossible}
use Rattle.rma_link.specs.Order.IsAtOrBefore.{at, before}
use Rattle.rma_link.specs.Within.{IsEdgeWithin, IsMemberWithin, IsMeetWithin, AreWithin}
use Rattle.rma_link.proofs.OrderLemmas.{same_point, at_or_before_trans, later_position, linked_within}
use Rattle.rma_walk.specs.Outcome.{IsAt, IsOrder}
use Rattle.rma_walk.specs.declared.source.Source.{Source}
use Rattle.rma_walk.specs.declared.source.Source.TheVariants.{Entry, Meet}
use Rattle.rma_walk.specs.Source.{IsEntryOf, IsSourceOf, AreSources, sources_of}
use Rattle.rma_walk.specs.inside.Pending.{IsSource}
use Rattle.rma_walk.proofs.PendingLemmas.{edge_source, meet_source, in_ranks}
use Rattle.rma_walk.proofs.OutcomeLemmas.{order_possible}
use Rattle.rma_walk.proofs.ListLemmas.{contains_none, replicate_at}
use Rattle.rma_clock.specs.declared.step.Step.{Step}
use Rattle.rma_clock.specs.declared.builder.Builder.{Builder}
use Rattle.rma_clock.specs.inside.Before.{point_at, IsBefore}
use Rattle.rma_clock.specs.inside.Table.{HasStep, IsCaught, IsUsable, IsReceived, IsSettled, IsTable, IsBuilder, IsWhole, entry_before, steps_of}
use Rattle.rma_clock.specs.Reached.{points_of}
use Rattle.rma_clock.proofs.BeforeLemmas.{received, some_source}
use Rattle.rma_clock.proofs.ReachedLemmas.{reached_point}

-- each entry of a source is an entry of the run
source_entry : (lens : List ℕ) (links : Links) (r c : ℕ) (source : Source) (e : Point) → AreWithin lens links → IsSourceOf links r c source → IsEntryOf links source e → IsEntry lens e
source_entry lens links r c (Entry from) e within is entry_is =
    subst (IsEntry lens) entry_is (All-contains (IsEdgeWithin lens) links.edges _ within.edges (edge_source links r c from is)).0
source_entry lens links r c (Meet index) e within is (m, there, (member, has, from)) =
    let in_meets : Contains links.meets m = (index, slice_get_within links.meets index m there, get_or_from_slice_get links.meets index m m there) in
    let fine : IsMeetWithin lens m = All-contains (IsMeetWithin lens) links.meets m within.meets in_meets in
    let one : IsMemberWithin lens member = All-contains (IsMemberWithin lens) m.calls member fine.0 has in
    let P : IsEntry lens (entry member.rank member.call) = (member.call, one, refl) in
    subst (IsEntry lens) (sym from) P

pub source_known : (lens : List ℕ) (links : Links) (r c : ℕ) (source : Source) → AreWithin lens links → IsSourceOf links r c source → IsSource (length lens) links source
source_known lens links r c (Entry from) within is =
    let start = (All-contains (IsEdgeWithin lens) links.edges _ within.edges (edge_source links r c from is)).0 in
    in_ranks lens from.rank.0 start.0 start.1
source_known lens links r c (Meet index) within is = let found = meet_source links r c index is in slice_get_within links.meets index found.0 found.1

-- a point of the run is in range
pub in_range : (lens : List ℕ) → All (λ n. n < 2 ^ 31) lens → (e : Point) → IsPoint lens e → (e.rank.0 < length lens) × (e.pos + 1 < 2 ^ 32)
in_range lens calls e point =
    let there : e.rank.0 < length lens = in_ranks lens e.rank.0 (e.pos / 2) (omega arith) in
    let bound : slice_index lens e.rank.0 < 2 ^ 31 = calls e.rank.0 0 there in
    (there, omega arith)

is_return : (q : Point) → q.pos % 2 ≡ 1 → q ≡ return_of q.rank (q.pos / 2)
is_return q odd = same_point q (return_of q.rank (q.pos / 2)) refl (omega arith)

-- and a return of it receives its sources
pub received_at : (lens : List ℕ) (links : Links) (inboxes : List (List (List Source))) → AreSources lens links inboxes → (q : Point) → q.pos % 2 ≡ 1 → IsReceived links q (sources_of (slice_index_or inboxes q.rank.0 []) (q.pos / 2))
received_at lens links inboxes sources q odd =
    subst (λ t. IsReceived links t (sources_of (slice_index_or inboxes q.rank.0 []) (q.pos / 2))) (sym (is_return q odd)) (received lens links inboxes sources q.rank.0 (q.pos / 2))

-- what of the order is settled
pub record IsSettledTo (links : Links) (order : List Point) (steps : List (List Step)) (i : ℕ) : Type 0 where
  pub there : (j : ℕ) (q : Point) → j < i → IsAt order j q → HasStep links steps q
  pub earlier : (r : ℕ) (s : Step) → Contains (steps_of steps r) s → (j : ℕ) × (j < i) × IsAt order j (point_at r s.pos)

module _ (lens : List ℕ) (links : Links) (order : List Point) (within : AreWithin lens links) (is : IsOrder lens links order) (steps : List (List Step)) (i : ℕ) (settled : IsSettledTo links order steps i) where
  possible : IsPossible links
  possible = order_possible lens links order within is

  -- all points of a rank up to one of the run are caught, where that one is before the next
  caught_before : (q e : Point) → IsAt order i q → IsPoint lens e → IsAtOrBefore links e q → (e ≡ q → ⊥) → IsCaught links steps e
  caught_before q e here point le differ pos upto =
      let R : ℕ → Rank = λ k. record { 0 = k } in
      let t : Point = point_at e.rank.0 pos in
      let first : IsAtOrBefore links t e = later_position links t e refl upto in
      let t_point : IsPoint lens t = omega arith in
      let found = is.listed t t_point in
      let not_after : found.0 ≤ i = is.ordered found.0 i t q found.1 here (at_or_before_trans links first le) in
      ⊎_elim
      (λ (less : found.0 < i). settled.there found.0 t less found.1)
      (λ (same : i ≤ found.0).
      let index : i ≡ found.0 = omega arith in
      let alike : q ≡ t = same_Some q t (sym here ∙ subst (λ k. IsAt order k t) (sym index) found.1) in
      let back : IsAtOrBefore links q e = subst (λ x. IsAtOrBefore links x e) (sym alike) first in
      absurd (possible q (e, (λ clash. differ (sym clash)), back, le)))
      (cases_lt found.0 i)

  -- and positions of steps come before it
  pub last_position : (q : Point) → IsAt order i q → All (λ (s : Step). s.pos ≤ q.pos) (steps_of steps q.rank.0)
  last_position q here k d lt =
      let s = get_or (steps_of steps q.rank.0) k d in
      let found = settled.earlier q.rank.0 s (Contains-get_or (steps_of steps q.rank.0) k d lt) in
      ⊎_elim
      (λ (later : q.pos < s.pos).
      let le : IsAtOrBefore links q (point_at q.rank.0 s.pos) = later_position links q (point_at q.rank.0 s.pos) refl (omega arith) in
      let clash : i ≤ found.0 = is.ordered i found.0 q (point_at q.rank.0 s.pos) here found.2 le in
      let less = found.1 in
      absurd (omega arith))
      (λ upto. upto)
      (cases_lt q.pos s.pos)

  module _ (calls : All (λ n. n < 2 ^ 31) lens) (inboxes : List (List (List Source))) (sources : AreSources lens links inboxes) (q : Point) (here : IsAt order i q) (odd : q.pos % 2 ≡ 1) where
    abbrev own_sources : List Source
    own_sources = sources_of (slice_index_or inboxes q.rank.0 []) (q.pos / 2)

    pub received_here : IsReceived links q own_sources
    received_here = received_at lens links inboxes sources q odd

    before_here : (e : Point) → IsBefore links q e → IsAtOrBefore links e q
    before_here e (d, step, le) = before le step

    pub caught_own : IsCaught links steps (entry_before q)
    caught_own =
        let point : IsPoint lens q = is.only i q here in
        let own : IsPoint lens (entry_before q) = omega arith in
        caught_before q (entry_before q) here own (later_position links (entry_before q) q refl (omega arith))
        (λ same. let alike : q.pos - 1 ≡ q.pos = ap (λ (p : Point). p.pos) same in absurd (omega arith))

    pub rank_here : q.rank.0 < length lens
    rank_here = (in_range lens calls q (is.only i q here)).0

    pub usable_here : All (IsUsable (length lens) links steps) own_sources
    usable_here k d lt =
        let source = get_or own_sources k d in
        let has : Contains own_sources source = Contains-get_or own_sources k d lt in
        let known = sources.only q.rank.0 (q.pos / 2) source has in (
          source_known lens links q.rank.0 (q.pos / 2) source within known,
          λ e entry_is.
              let start = source_entry lens links q.rank.0 (q.pos / 2) source e within known entry_is in
              let lt_calls = start.1 in
              let even : e.pos ≡ 2 * start.0 = start.2 in
              let point : IsPoint lens e = omega arith in
              let le = before_here e (received_here.from e (inr (source, has, (e, entry_is, at)))) in
              let range = in_range lens calls e point in
              (caught_before q e here point le (λ same. let alike : e.pos ≡ q.pos = ap (λ (p : Point). p.pos) same in absurd (omega arith)), range.0, range.1),
        )

    pub settled_more : (new : List (List Step)) → IsSettled q own_sources steps new → IsSettledTo links order new (i + 1)
    settled_more new more = record {
      there = λ j t lt at_j p linked. ⊎_elim
          (λ (less : j < i). let found = settled.there j t less at_j p linked in (found.0, more.kept t.rank.0 found.0 found.1, found.2))
          (λ (last : i ≤ j).
          let index : i ≡ j = omega arith in
          let same : q ≡ t = same_Some q t (sym here ∙ subst (λ k. IsAt order k t) (sym index) at_j) in
          let P : Point → Type 0 = λ x. (s : Step) × Contains (steps_of new x.rank.0) s × (s.pos ≡ x.pos) in
          let to_q : IsLinked links p q = subst (IsLinked links p) (sym same) linked in
          subst P same (more.added (some_source lens links inboxes sources q.rank.0 (q.pos / 2) p (subst (IsLinked links p) (is_return q odd) to_q))))
          (cases_lt j i);
      earlier = λ r s has. ⊎_elim
          (λ (before_it : Contains (steps_of steps r) s). let found = settled.earlier r s before_it in let lt = found.1 in (found.0, omega arith, found.2))
          (λ (last : (r ≡ q.rank.0) × (s.pos ≡ q.pos)).
          let R : ℕ → Rank = λ k. record { 0 = k } in
          let same : q ≡ point_at r s.pos = same_point q (point_at r s.pos) (ap R (sym last.0)) (sym last.1) in
          (i, omega arith, subst (IsAt order i) same here))
          (more.only r s has);
    }

  -- an entry receives nothing
  pub settled_entry : (q : Point) → IsAt order i q → q.pos % 2 ≡ 0 → IsSettledTo links order steps (i + 1)
  settled_entry q here even = record {
    there = λ j t lt at_j p linked. ⊎_elim
        (λ (less : j < i). settled.there j t less at_j p linked)
        (λ (last : i ≤ j).
        let index : i ≡ j = omega arith in
        let same : q ≡ t = same_Some q t (sym here ∙ subst (λ k. IsAt order k t) (sym index) at_j) in
        let to_q : IsLinked links p q = subst (IsLinked links p) (sym same) linked in
        let return = (linked_within lens links p q within to_q).1 in
        let odd : q.pos ≡ 2 * return.0 + 1 = return.2 in
        absurd (omega arith))
        (cases_lt j i);
    earlier = λ r s has. let found = settled.earlier r s has in let lt = found.1 in (found.0, omega arith, found.2);
  }

-- where all are settled, all are caught
pub caught_all : (lens : List ℕ) (links : Links) (order : List Point) (steps : List (List Step)) (i : ℕ) → IsOrder lens links order → IsSettledTo links order steps i → length order ≤ i → (q : Point) → IsPoint lens q → IsCaught links steps q
caught_all lens links order steps i is settled all q point pos upto =
    let t : Point = point_at q.rank.0 pos in
    let t_point : IsPoint lens t = omega arith in
    let found = is.listed t t_point in
    let lt : found.0 < length order = slice_get_within order found.0 t found.1 in
    settled.there found.0 t (omega arith) found.1

-- clocks that are built up to an index of the order
pub record IsBuiltTo (lens : List ℕ) (links : Links) (order : List Point) (i : ℕ) (builder : Builder) : Type 0 where
  pub links_are : builder.links.now ≡ links
  pub built : IsBuilder (length lens) links builder
  pub settled : IsSettledTo links order builder.table.steps.items i

pub built_none : (lens : List ℕ) (links : Links) (order : List Point) (builder : Builder) → builder.links.now ≡ links → IsBuilder (length lens) links builder → builder.table.steps.items ≡ replicate (length lens) [] → IsBuiltTo lens links order 0 builder
built_none lens links order builder same built none = record {
  links_are = same;
  built = built;
  settled = record {
    there = λ j q lt is. absurd (omega arith);
    earlier = λ r s has.
        let empty : steps_of builder.table.steps.items r ≡ [] = ap (λ all. steps_of all r) none ∙ replicate_at (length lens) r [] in
        absurd (contains_none s (subst (λ xs. Contains xs s) empty has));
  };
}

module _ (lens : List ℕ) (links : Links) (order : List Point) (within : AreWithin lens links) (calls : All (λ n. n < 2 ^ 31) lens) (is : IsOrder lens links order) (inboxes : List (List (List Source))) (sources : AreSources lens links inboxes)
    (i : ℕ) (builder : Builder) (to : IsBuiltTo lens links order i builder) (q : Point) (here : IsAt order i q) (odd : q.pos % 2 ≡ 1) (given : List Source) (all : given ≡ sources_of (slice_index_or inboxes q.rank.0 []) (q.pos / 2)) where
  abbrev steps_now : List (List Step)
  steps_now = builder.table.steps.items

  pub settle_caught : IsCaught builder.links.now steps_now (entry_before q)
  settle_caught = subst (λ l. IsCaught l steps_now (entry_before q)) (sym to.links_are) (caught_own lens links order within is steps_now i to.settled calls inboxes sources q here odd)

  pub settle_rank : q.rank.0 < length steps_now
  settle_rank = let size = to.built.rows.size in let there = rank_here lens links order within is steps_now i to.settled calls inboxes sources q here odd in omega arith

  pub settle_usable : All (IsUsable (length steps_now) builder.links.now steps_now) given
  settle_usable =
      let P : ℕ → Links → List Source → Type 0 = λ n l xs. All (IsUsable n l steps_now) xs in
      let base = usable_here lens links order within is steps_now i to.settled calls inboxes sources q here odd in
      subst (P (length steps_now) builder.links.now) (sym all) (subst (λ l. P (length steps_now) l (sources_of (slice_index_or inboxes q.rank.0 []) (q.pos / 2))) (sym to.links_are) (subst (λ n. P n links (sources_of (slice_index_or inboxes q.rank.0 []) (q.pos / 2))) (sym to.built.rows.size) base))

  pub settle_received : IsReceived builder.links.now q given
  settle_received =
      let base = received_here lens links order within is steps_now i to.settled calls inboxes sources q here odd in
      subst (IsReceived builder.links.now q) (sym all) (subst (λ l. IsReceived l q (sources_of (slice_index_or inboxes q.rank.0 []) (q.pos / 2))) (sym to.links_are) base)

  pub built_more : (new : Builder) → new.links.now ≡ builder.links.now → IsBuilder (length steps_now) builder.links.now new → IsSettled q given steps_now new.table.steps.items → IsBuiltTo lens links order (i + 1) new
  built_more new same built more = record {
    links_are = same ∙ to.links_are;
    built = subst (λ l. IsBuilder (length lens) l new) to.links_are (subst (λ n. IsBuilder n builder.links.now new) to.built.rows.size built);
    settled = settled_more lens links order within is steps_now i to.settled calls inboxes sources q here odd new.table.steps.items (subst (λ xs. IsSettled q xs steps_now new.table.steps.items) all more);
  }

pub built_entry : (lens : List ℕ) (links : Links) (order : List Point) → AreWithin lens links → IsOrder lens links order → (i : ℕ) (builder : Builder) → IsBuiltTo lens links order i builder → (q : Point) → IsAt order i q → q.pos % 2 ≡ 0
    → IsBuiltTo lens links order (i + 1) builder
built_entry lens links order within is i builder to q here even = record {
  links_are = to.links_are;
  built = to.built;
  settled = settled_entry lens links order within is builder.table.steps.items i to.settled q here even;
}

pub clocks_of : (lens : List ℕ) (links : Links) (order : List Point) (i : ℕ) (builder : Builder) → AreWithin lens links → IsOrder lens links order → IsBuiltTo lens links order i builder → length order ≤ i → IsWhole (points_of lens) links builder.table
clocks_of lens links order i builder within is to all = record {
  possible = order_possible lens links order within is;
  rows = subst (λ n. IsTable n links builder.table) (sym (length-map lens (λ calls. 2 * calls))) to.built.rows;
  caught = λ q reached. caught_all lens links order builder.table.steps.items i is to.settled all q (reached_point lens q reached);
}
