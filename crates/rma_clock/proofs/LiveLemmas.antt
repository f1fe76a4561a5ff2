-- Clocks of points that are settled one by one.
use Rattle.std.proofs.Common.{◌≡◌, ℕ, ◌+◌, ◌-◌, ◌<◌, ◌≤◌, ◌⊎◌, inl, inr, List, [], ◌∷◌, ◌++◌, length, get_or, map, replicate, Result, Ok, Err, refl, sym, ap, subst, ◌∙◌, arith, ⊎_elim}
use Rattle.std.specs.Prelude.{slice_index, All, Contains, OnErr}
use Rattle.std.specs.List.Sorted.{IsNonDecreasingBy}
use Rattle.std.proofs.lemmas.Bool.{cases_eq, cases_lt}
use Rattle.std.proofs.lemmas.List.{get_or-set_same, get_or-set_other, get_or-map, length-set, length-map, length-replicate}
use Rattle.std.proofs.lemmas.List.Elements.{All-nil, All-append, All-contains, Contains-get_or, Contains-push, Contains-push_cases, Contains-append_left, Contains-append_right, Contains-append_cases}
use Rattle.std.proofs.lemmas.Option.{slice_get_within, get_or_from_slice_get}
use Rattle.rma_base.specs.declared.rank.Rank.{Rank}
use Rattle.rma_base.specs.declared.point.Point.{Point}
use Rattle.rma_link.specs.declared.edge.Edge.{Edge}
use Rattle.rma_link.specs.declared.links.Links.{Links}
use Rattle.rma_link.specs.Link.{IsMet, IsLinked}
use Rattle.rma_link.specs.Order.{IsDirectlyBefore, IsAtOrBefore, IsPossible}
use Rattle.rma_link.specs.Order.IsAtOrBefore.{at, before}
use Rattle.rma_link.proofs.OrderLemmas.{same_point, next_position, step_cases}
use Rattle.rma_walk.proofs.ListLemmas.{contains_none, replicate_at}
use Rattle.rma_walk.specs.declared.source.Source.TheVariants.{Entry}
use Rattle.rma_clock.specs.declared.step.Step.{Step}
use Rattle.rma_clock.specs.declared.table.Table.{Table}
use Rattle.rma_clock.specs.Reached.{IsReached, CanSettle, with_point, with_edges, edges_to, no_links}
use Rattle.rma_clock.specs.inside.Before.{point_at, IsBefore, IsRow, IsRaised}
use Rattle.rma_clock.specs.inside.Table.{IsTable, IsCaught, HasStep, IsSettled, entry_before, steps_of, row_at}
use Rattle.rma_clock.specs.inside.Live.{IsLive, IsEdgeReached, IsBeforeOwn, IsBeforePoints}
use Rattle.rma_clock.proofs.RowLemmas.{row_as}
use Rattle.rma_clock.proofs.BuilderLemmas.{empty_table}

-- where all links start at reached points, no other rank comes after a point that is not
module _ (points : List ℕ) (links : Links) (starts : (d t : Point) → IsLinked links d t → IsReached points d) where
  pub past : {x y : Point} → (IsReached points x → ⊥) → IsAtOrBefore links x y → (y.rank ≡ x.rank) × (x.pos ≤ y.pos)
  past not_yet at = (refl, omega arith)
  past {x = x} {y = y} not_yet (before {q = d} first step) =
      let so = past not_yet first in
      let beyond : x.pos ≤ d.pos = so.1 in
      let same : slice_index points d.rank.0 ≡ slice_index points x.rank.0 = ap (λ (r : Rank). slice_index points r.0) so.0 in
      ⊎_elim
      (λ (own : (d.rank ≡ y.rank) × (y.pos ≡ d.pos + 1)). let next = own.1 in (sym own.0 ∙ so.0, omega arith))
      (λ linked. let early = starts d y linked in absurd (not_yet (omega arith)))
      (step_cases links d y step)

  -- so it is on no cycle
  pub past_alone : (x y : Point) → (IsReached points x → ⊥) → IsAtOrBefore links x y → IsAtOrBefore links y x → x ≡ y
  past_alone x y not_yet there back =
      let one = past not_yet there in
      let beyond : x.pos ≤ y.pos = one.1 in
      let same : slice_index points y.rank.0 ≡ slice_index points x.rank.0 = ap (λ (r : Rank). slice_index points r.0) one.0 in
      let two = past {x = y} {y = x} (λ early. not_yet (omega arith)) back in
      let upto : y.pos ≤ x.pos = two.1 in
      same_point x y two.0 (omega arith)

-- nothing is settled
pub live_none : (n : ℕ) (table : Table) → table.steps.items ≡ replicate n [] → table.rows ≡ [] → IsLive (replicate n 0) no_links table
live_none n table steps rows =
    let zeros : (r : ℕ) → slice_index (replicate n 0) r ≡ 0 = λ r. replicate_at n r 0 in
    let never : (p : Point) → IsReached (replicate n 0) p → ⊥ = λ p is. let zero = zeros p.rank.0 in absurd (omega arith) in
    let none : (r : ℕ) → steps_of table.steps.items r ≡ [] = λ r. ap (λ all. steps_of all r) steps ∙ replicate_at n r [] in
    let free : (d t : Point) → IsLinked no_links d t → IsReached (replicate n 0) d =
    λ d t linked. ⊎_elim
    (λ (edge : Contains no_links.edges (record { from = d; to = t })). absurd (contains_none (record { from = d; to = t }) edge))
    (λ (met : IsMet no_links d t). absurd (contains_none met.meet met.is_meet))
    linked in
    record {
      whole = record {
        possible = λ p (q, differ, there, back). differ (past_alone (replicate n 0) no_links free p q (never p) there back);
        rows = subst (λ k. IsTable k no_links table) (sym (length-replicate n 0)) (empty_table n no_links table steps rows);
        caught = λ q reached. absurd (never q reached);
      };
      closed = All-nil (IsEdgeReached (replicate n 0));
      no_meets = refl;
      steps = λ r s has. absurd (contains_none s (subst (λ xs. Contains xs s) (none r) has));
    }

-- a table with the same steps and other rows
pub table_as : (n : ℕ) (links : Links) (old new : Table) → IsTable n links old → new.steps.items ≡ old.steps.items → new.rows ≡ old.rows → IsTable n links new
table_as n links old new is steps rows = record {
  size = ap length steps ∙ is.size;
  widths = subst (All (λ row. length row ≡ n)) (sym rows) is.widths;
  sorted = λ r. subst (λ all. IsNonDecreasingBy (λ (s : Step). s.pos) (steps_of all r)) (sym steps) (is.sorted r);
  right = λ r s has.
      let Q : List (List ℕ) → Type 0 = λ all. (s.row < length all) × IsRow (IsBefore links (point_at r s.pos)) (row_at all s.row) in
      subst Q (sym rows) (is.right r s (subst (λ all. Contains (steps_of all r) s) steps has));
}

pub live_as : (points : List ℕ) (links : Links) (old new : Table) → IsLive points links old → IsTable (length points) links new → new.steps.items ≡ old.steps.items → IsLive points links new
live_as points links old new live rows steps = record {
  whole = record {
    possible = live.whole.possible;
    rows = rows;
    caught = λ q reached. subst (λ all. IsCaught links all q) (sym steps) (live.whole.caught q reached);
  };
  closed = live.closed;
  no_meets = live.no_meets;
  steps = λ r s has. live.steps r s (subst (λ all. Contains (steps_of all r) s) steps has);
}

pub on_err : {T E P : Type 0} (r : Result T E) → P → OnErr r P
on_err (Ok value) p = tt
on_err (Err error) p = p

-- rows that are raised further
pub row_more : (P Q R : Point → Type 0) (old new : List ℕ) → IsRow P old → IsRaised Q old new → ((p : Point) → R p → P p ⊎ Q p) → ((p : Point) → P p ⊎ Q p → R p) → IsRow R new
row_more P Q R old new row raised from to = record {
  only = λ p covered. ⊎_elim (λ early. to p (inl (row.only p early))) (λ late. to p (inr late)) (raised.only p covered);
  all = λ p is. ⊎_elim (λ early. raised.kept p (row.all p early)) (λ late. raised.added p late) (from p is);
}

pub no_source : (links : Links) (q : Point) (row : List ℕ) → IsRow (IsBeforeOwn links q) row → IsRow (λ p. IsBeforeOwn links q p ⊎ IsBeforePoints links [] p) row
no_source links q row is =
    row_as (IsBeforeOwn links q) (λ p. IsBeforeOwn links q p ⊎ IsBeforePoints links [] p) row is
    (λ p either. ⊎_elim (λ own. own) (λ (some : IsBeforePoints links [] p). absurd (contains_none some.0 some.1)) either)
    (λ p own. inl own)

pub one_source : (links : Links) (q source : Point) (some more : List Point) (old new : List ℕ) → more ≡ some ++ source ∷ [] → IsRow (λ p. IsBeforeOwn links q p ⊎ IsBeforePoints links some p) old
    → IsRaised (λ p. IsAtOrBefore links p source) old new → IsRow (λ p. IsBeforeOwn links q p ⊎ IsBeforePoints links more p) new
one_source links q source some more old new is row raised =
    let E : List Point → Type 0 = λ xs. IsRow (λ p. IsBeforeOwn links q p ⊎ IsBeforePoints links xs p) new in
    subst E (sym is)
    (row_more (λ p. IsBeforeOwn links q p ⊎ IsBeforePoints links some p) (λ p. IsAtOrBefore links p source) (λ p. IsBeforeOwn links q p ⊎ IsBeforePoints links (some ++ source ∷ []) p) old new row raised
    (λ p either. ⊎_elim
    (λ own. inl (inl own))
    (λ (found : IsBeforePoints links (some ++ source ∷ []) p). ⊎_elim
    (λ early. inl (inr (found.0, early, found.2)))
    (λ (last : source ≡ found.0). inr (subst (IsAtOrBefore links p) (sym last) found.2))
    (Contains-push_cases some source found.0 found.1))
    either)
    (λ p either. ⊎_elim
    (λ (early : IsBeforeOwn links q p ⊎ IsBeforePoints links some p). ⊎_elim
    (λ own. inl own)
    (λ (found : IsBeforePoints links some p). inr (found.0, Contains-append_left some (source ∷ []) found.0 found.1, found.2))
    early)
    (λ le. inr (source, Contains-push some source, le))
    either))

-- the edges to a point
edge_has : (q : Point) (sources : List Point) (d : Point) → Contains sources d → Contains (edges_to q sources) (record { from = d; to = q })
edge_has q sources d (k, lt, is) =
    let F : Point → Edge = λ from. record { from = from; to = q } in
    let size : length (edges_to q sources) ≡ length sources = length-map sources F in
    (k, omega arith, get_or-map F sources k d (F d) lt ∙ ap F is)

edge_from : (q : Point) (sources : List Point) (d t : Point) → Contains (edges_to q sources) (record { from = d; to = t }) → Contains sources d × (t ≡ q)
edge_from q sources d t (k, lt, is) =
    let F : Point → Edge = λ from. record { from = from; to = q } in
    let size : length (edges_to q sources) ≡ length sources = length-map sources F in
    let there : k < length sources = omega arith in
    let made : F (get_or sources k d) ≡ record { from = d; to = t } = sym (get_or-map F sources k d (record { from = d; to = t }) there) ∙ is in
    ((k, there, ap (λ (e : Edge). e.from) made), sym (ap (λ (e : Edge). e.to) made))

-- the next point, with an edge from each of these
module _ (points : List ℕ) (links : Links) (table : Table) (live : IsLive points links table) (q : Point) (sources : List Point) (can : CanSettle points q sources) where
  abbrev more : Links
  more = with_edges links (edges_to q sources)

  next_at : slice_index points q.rank.0 ≡ q.pos
  next_at = get_or_from_slice_get points q.rank.0 q.pos 0 can.next

  pub rank_there : q.rank.0 < length points
  rank_there = slice_get_within points q.rank.0 q.pos can.next

  not_reached : IsReached points q → ⊥
  not_reached is = let at_next = next_at in absurd (omega arith)

  source_reached : (d : Point) → Contains sources d → IsReached points d
  source_reached d has = All-contains (IsReached points) sources d can.known has

  linked_reached : (d t : Point) → IsLinked links d t → IsReached points d × IsReached points t
  linked_reached d t linked =
      ⊎_elim
      (λ (edge : Contains links.edges (record { from = d; to = t })). All-contains (IsEdgeReached points) links.edges (record { from = d; to = t }) live.closed edge)
      (λ (met : IsMet links d t). absurd (contains_none met.meet (subst (λ ms. Contains ms met.meet) live.no_meets met.is_meet)))
      linked

  linked_cases : (d t : Point) → IsLinked more d t → IsLinked links d t ⊎ (Contains sources d × (t ≡ q))
  linked_cases d t linked =
      ⊎_elim
      (λ (edge : Contains more.edges (record { from = d; to = t })). ⊎_elim
      (λ old. inl (inl old))
      (λ new. inr (edge_from q sources d t new))
      (Contains-append_cases links.edges (edges_to q sources) (record { from = d; to = t }) edge))
      (λ (met : IsMet more d t). absurd (contains_none met.meet (subst (λ ms. Contains ms met.meet) live.no_meets met.is_meet)))
      linked

  linked_more : (d t : Point) → IsLinked links d t → IsLinked more d t
  linked_more d t linked =
      ⊎_elim
      (λ (edge : Contains links.edges (record { from = d; to = t })). inl (Contains-append_left links.edges (edges_to q sources) (record { from = d; to = t }) edge))
      (λ (met : IsMet links d t). absurd (contains_none met.meet (subst (λ ms. Contains ms met.meet) live.no_meets met.is_meet)))
      linked

  step_more : (d t : Point) → IsDirectlyBefore links d t → IsDirectlyBefore more d t
  step_more d t step = ⊎_elim (λ one. inl one) (λ rest. ⊎_elim (λ one. inr (inl one)) (λ linked. inr (inr (linked_more d t linked))) rest) step

  grows : {p t : Point} → IsAtOrBefore links p t → IsAtOrBefore more p t
  grows at = at
  grows {p = p} {t = t} (before {q = d} first step) = before (grows first) (step_more d t step)

  -- steps to reached points are as before
  step_before : (d t : Point) → IsReached points t → IsDirectlyBefore more d t → IsReached points d × IsDirectlyBefore links d t
  step_before d t reached step =
      let early : IsReached points d =
      ⊎_elim
      (λ (own : (d.rank ≡ t.rank) × (t.pos ≡ d.pos + 1)).
      let next = own.1 in
      let same : slice_index points d.rank.0 ≡ slice_index points t.rank.0 = ap (λ (r : Rank). slice_index points r.0) own.0 in
      let lt : d.pos < slice_index points d.rank.0 = omega arith in lt)
      (λ (linked : IsLinked more d t). ⊎_elim (λ old. (linked_reached d t old).0) (λ (new : Contains sources d × (t ≡ q)). source_reached d new.0) (linked_cases d t linked))
      (step_cases more d t step) in (
        early,
        ⊎_elim
            (λ one. inl one)
            (λ rest. ⊎_elim
            (λ one. inr (inl one))
            (λ (linked : IsLinked more d t). ⊎_elim
            (λ old. inr (inr old))
            (λ (new : Contains sources d × (t ≡ q)). absurd (not_reached (subst (IsReached points) new.1 reached)))
            (linked_cases d t linked))
            rest)
            step,
      )

  narrows : {p t : Point} → IsReached points t → IsAtOrBefore more p t → IsAtOrBefore links p t
  narrows reached at = at
  narrows {p = p} {t = t} reached (before {q = d} first step) =
      let so = step_before d t reached step in
      before (narrows so.0 first) so.1

  narrows_reached : {p t : Point} → IsReached points t → IsAtOrBefore more p t → IsReached points p
  narrows_reached reached at = reached
  narrows_reached {p = p} {t = t} reached (before {q = d} first step) = narrows_reached (step_before d t reached step).0 first

  starts_more : (d t : Point) → IsLinked more d t → IsReached points d
  starts_more d t linked = ⊎_elim (λ old. (linked_reached d t old).0) (λ (new : Contains sources d × (t ≡ q)). source_reached d new.0) (linked_cases d t linked)

  possible_more : IsPossible more
  possible_more p (o, differ, there, back) =
      ⊎_elim
      (λ (lt : o.pos < slice_index points o.rank.0). live.whole.possible p (o, differ, narrows {p = p} {t = o} lt there, narrows {p = o} {t = p} (narrows_reached {p = p} {t = o} lt there) back))
      (λ (past_it : slice_index points o.rank.0 ≤ o.pos). differ (sym (past_alone points more starts_more o p (λ lt. absurd (omega arith)) back there)))
      (cases_lt o.pos (slice_index points o.rank.0))

  -- what is before a reached point, and before the next one
  before_reached : (t p : Point) → IsReached points t → IsBefore more t p → IsBefore links t p
  before_reached t p reached (d, step, le) = let so = step_before d t reached step in (d, so.1, narrows so.0 le)

  before_more : (t p : Point) → IsBefore links t p → IsBefore more t p
  before_more t p (d, step, le) = (d, step_more d t step, grows le)

  before_next : (p : Point) → IsBefore more q p → IsBeforeOwn links q p ⊎ IsBeforePoints links sources p
  before_next p (d, step, le) =
      ⊎_elim
      (λ (own : (d.rank ≡ q.rank) × (q.pos ≡ d.pos + 1)).
      let next = own.1 in
      let at_next = next_at in
      let same : slice_index points d.rank.0 ≡ slice_index points q.rank.0 = ap (λ (r : Rank). slice_index points r.0) own.0 in
      let lt : d.pos < slice_index points d.rank.0 = omega arith in
      let some : 0 < q.pos = omega arith in
      inl (some, subst (IsAtOrBefore links p) (same_point d (entry_before q) own.0 (omega arith)) (narrows {p = p} {t = d} lt le)))
      (λ (linked : IsLinked more d q). ⊎_elim
      (λ old. absurd (not_reached (linked_reached d q old).1))
      (λ (new : Contains sources d × (q ≡ q)). inr (d, new.0, narrows {p = p} {t = d} (source_reached d new.0) le))
      (linked_cases d q linked))
      (step_cases more d q step)

  next_before : (p : Point) → IsBeforeOwn links q p ⊎ IsBeforePoints links sources p → IsBefore more q p
  next_before p either =
      ⊎_elim
      (λ (own : IsBeforeOwn links q p).
      let some = own.0 in
      let to : ◌≡◌ {A = Point} (record { rank = q.rank; pos = q.pos - 1 + 1 }) q = same_point _ q refl (omega arith) in
      (entry_before q, subst (IsDirectlyBefore more (entry_before q)) to (next_position more q.rank (q.pos - 1)), grows own.1))
      (λ (found : IsBeforePoints links sources p).
      (found.0, inr (inr (inl (Contains-append_right links.edges (edges_to q sources) (record { from = found.0; to = q }) (edge_has q sources found.0 found.1)))), grows found.2))
      either

  pub row_of_next : (row : List ℕ) → IsRow (λ p. IsBeforeOwn links q p ⊎ IsBeforePoints links sources p) row → IsRow (IsBefore more q) row
  row_of_next row is = row_as (λ p. IsBeforeOwn links q p ⊎ IsBeforePoints links sources p) (IsBefore more q) row is before_next next_before

  pub table_more : IsTable (length points) more table
  table_more = record {
    size = live.whole.rows.size;
    widths = live.whole.rows.widths;
    sorted = live.whole.rows.sorted;
    right = λ r s has.
        let right = live.whole.rows.right r s has in
        let here : Point = point_at r s.pos in
        (right.0, row_as (IsBefore links here) (IsBefore more here) _ right.1 (λ p is. before_reached here p (live.steps r s has) is) (λ p is. before_more here p is));
  }

  pub earlier_steps : All (λ (s : Step). s.pos ≤ q.pos) (steps_of table.steps.items q.rank.0)
  earlier_steps k d lt =
      let s = get_or (steps_of table.steps.items q.rank.0) k d in
      let at_next = next_at in
      let reached = live.steps q.rank.0 s (Contains-get_or (steps_of table.steps.items q.rank.0) k d lt) in
      omega arith

  abbrev then_points : List ℕ
  then_points = with_point points q

  then_here : slice_index then_points q.rank.0 ≡ q.pos + 1
  then_here = get_or-set_same points q.rank.0 (q.pos + 1) 0 rank_there

  then_there : (r : ℕ) → (r ≡ q.rank.0 → ⊥) → slice_index then_points r ≡ slice_index points r
  then_there r differs = get_or-set_other points q.rank.0 r (q.pos + 1) 0 differs

  still_reached : (t : Point) → IsReached points t → IsReached then_points t
  still_reached t reached =
      ⊎_elim
      (λ (same : t.rank.0 ≡ q.rank.0).
      let a : slice_index then_points t.rank.0 ≡ slice_index then_points q.rank.0 = ap (slice_index then_points) same in
      let b : slice_index points t.rank.0 ≡ slice_index points q.rank.0 = ap (slice_index points) same in
      let at_next = next_at in let here = then_here in omega arith)
      (λ (differs : t.rank.0 ≡ q.rank.0 → ⊥). let there = then_there t.rank.0 differs in omega arith)
      (cases_eq t.rank.0 q.rank.0)

  then_reached : IsReached then_points q
  then_reached = let here = then_here in omega arith

  reached_cases : (t : Point) → IsReached then_points t → IsReached points t ⊎ (t ≡ q)
  reached_cases t reached =
      ⊎_elim
      (λ (same : t.rank.0 ≡ q.rank.0).
      let a : slice_index then_points t.rank.0 ≡ slice_index then_points q.rank.0 = ap (slice_index then_points) same in
      let b : slice_index points t.rank.0 ≡ slice_index points q.rank.0 = ap (slice_index points) same in
      let at_next = next_at in
      let here = then_here in
      ⊎_elim
      (λ (lt : t.pos < q.pos). let early : t.pos < slice_index points t.rank.0 = omega arith in inl early)
      (λ (ge : q.pos ≤ t.pos). let R : ℕ → Rank = λ k. record { 0 = k } in inr (same_point t q (ap R same) (omega arith)))
      (cases_lt t.pos q.pos))
      (λ (differs : t.rank.0 ≡ q.rank.0 → ⊥). let there = then_there t.rank.0 differs in let early : t.pos < slice_index points t.rank.0 = omega arith in inl early)
      (cases_eq t.rank.0 q.rank.0)

  -- a table with the steps that this point needs
  module _ (new : Table) (rows : IsTable (length points) more new) (settled : IsSettled q (map Entry sources) table.steps.items new.steps.items) where
    has_step : (t : Point) → IsReached then_points t → HasStep more new.steps.items t
    has_step t reached p linked =
        let P : Point → Type 0 = λ x. (s : Step) × Contains (steps_of new.steps.items x.rank.0) s × (s.pos ≡ x.pos) in
        ⊎_elim
        (λ (old : IsLinked links p t). let found = live.whole.caught t (linked_reached p t old).1 t.pos (omega arith) p old in (found.0, settled.kept t.rank.0 found.0 found.1, found.2))
        (λ (to : Contains sources p × (t ≡ q)).
        let size : length (map Entry sources) ≡ length sources = length-map sources Entry in
        let lt = to.0.1 in
        subst P (sym to.1) (settled.added (omega arith)))
        (linked_cases p t linked)

    pub live_more : IsLive then_points more new
    live_more = record {
      whole = record {
        possible = possible_more;
        rows = subst (λ n. IsTable n more new) (sym (length-set points q.rank.0 (q.pos + 1))) rows;
        caught = λ t reached pos upto. has_step (point_at t.rank.0 pos) (omega arith);
      };
      closed = All-append (IsEdgeReached then_points) links.edges (edges_to q sources)
          (λ k d lt. let both = live.closed k d lt in (still_reached _ both.0, still_reached _ both.1))
          (λ k d lt.
          let e = get_or (edges_to q sources) k d in
          let found = edge_from q sources e.from e.to (Contains-get_or (edges_to q sources) k d lt) in
          (still_reached e.from (source_reached e.from found.0), subst (IsReached then_points) (sym found.1) then_reached));
      no_meets = live.no_meets;
      steps = λ r s has. ⊎_elim
          (λ old. still_reached (point_at r s.pos) (live.steps r s old))
          (λ (last : (r ≡ q.rank.0) × (s.pos ≡ q.pos)).
          let a : slice_index then_points r ≡ slice_index then_points q.rank.0 = ap (slice_index then_points) last.0 in
          let same = last.1 in
          let here = then_here in omega arith)
          (settled.only r s has);
    }
