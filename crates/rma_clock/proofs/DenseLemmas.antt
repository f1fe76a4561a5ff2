-- Rows of points that are made in their order.
use Rattle.std.proofs.Common.{◌≡◌, ℕ, ◌+◌, ◌-◌, ◌*◌, ◌/◌, ◌%◌, ◌<◌, ◌≤◌, ◌^◌, ◌⊎◌, inl, inr, List, [], ◌∷◌, ◌++◌, length, get_or, set, replicate, refl, sym, ap, subst, ◌∙◌, arith, ⊎_elim}
use Rattle.std.specs.Prelude.{All, Contains, slice_index}
use Rattle.std.proofs.lemmas.Bool.{cases_eq, cases_lt}
use Rattle.std.proofs.lemmas.List.{length-map, length-set, length-replicate, length_push, get_or-set_same, get_or-set_other}
use Rattle.std.proofs.lemmas.List.Elements.{All-push, Contains-get_or, Contains-push, Contains-push_cases, Contains-append_left}
use Rattle.std.proofs.lemmas.Option.{same_Some, slice_get_within, slice_get-get_or}
use Rattle.rma_base.specs.declared.rank.Rank.{Rank}
use Rattle.rma_base.specs.declared.point.Point.{Point}
use Rattle.rma_link.specs.declared.links.Links.{Links}
use Rattle.rma_link.specs.Point.{IsPoint}
use Rattle.rma_link.specs.Link.{IsLinked}
use Rattle.rma_link.specs.Order.{IsDirectlyBefore, IsAtOrBefore}
use Rattle.rma_link.specs.Order.IsAtOrBefore.{at, before}
use Rattle.rma_link.specs.Within.{AreWithin}
use Rattle.rma_link.proofs.OrderLemmas.{same_point, directly_before, next_position, later_position, step_cases, linked_within}
use Rattle.rma_walk.specs.Outcome.{IsAt, IsOrder}
use Rattle.rma_walk.specs.declared.source.Source.{Source}
use Rattle.rma_walk.specs.declared.source.Source.TheVariants.{Entry}
use Rattle.rma_walk.specs.Source.{AreSources}
use Rattle.rma_walk.specs.inside.Pending.{IsSource}
use Rattle.rma_walk.proofs.PendingLemmas.{in_ranks}
use Rattle.rma_walk.proofs.ListLemmas.{contains_none, replicate_at}
use Rattle.rma_clock.specs.declared.dense.DenseClocks.{DenseClocks}
use Rattle.rma_clock.specs.inside.Before.{IsBefore, IsBeforeSource, IsBeforeSome, IsRow}
use Rattle.rma_clock.specs.inside.Table.{IsReceived, entry_before, row_at}
use Rattle.rma_clock.specs.inside.Dense.{rows_of, row_of, HasRow, IsRowOf, IsDense, IsHeld, AreReceived, AreBefore, AreDense}
use Rattle.rma_clock.specs.Reached.{points_of}
use Rattle.rma_clock.proofs.ReachedLemmas.{reached_point}
use Rattle.rma_clock.proofs.RowLemmas.{IsAmong, raised, raised_by_one}
use Rattle.rma_clock.proofs.BuilderLemmas.{row_kept, row_new}
use Rattle.rma_clock.proofs.LiveLemmas.{row_more}
use Rattle.rma_clock.proofs.SettleLemmas.{source_known, in_range, received_at}

module _ (lens : List ℕ) (links : Links) (within : AreWithin lens links) (q : Point) (point : IsPoint lens q) where
  -- what comes directly before a point of the run is one too, and another one
  point_before : (d : Point) → IsDirectlyBefore links d q → IsPoint lens d × (d ≡ q → ⊥)
  point_before d step =
      ⊎_elim
      (λ (own : (d.rank ≡ q.rank) × (q.pos ≡ d.pos + 1)).
      let next = own.1 in
      let same : slice_index lens d.rank.0 ≡ slice_index lens q.rank.0 = ap (λ (r : Rank). slice_index lens r.0) own.0 in
      let P : IsPoint lens d = omega arith in
      (P, λ clash. let alike : d.pos ≡ q.pos = ap (λ (t : Point). t.pos) clash in absurd (omega arith)))
      (λ (linked : IsLinked links d q).
      let ends = linked_within lens links d q within linked in
      let lt = ends.0.1 in
      let even : d.pos ≡ 2 * ends.0.0 = ends.0.2 in
      let odd : q.pos ≡ 2 * ends.1.0 + 1 = ends.1.2 in
      let P : IsPoint lens d = omega arith in
      (P, λ clash. let alike : d.pos ≡ q.pos = ap (λ (t : Point). t.pos) clash in absurd (omega arith)))
      (step_cases links d q step)

point_upto : (lens : List ℕ) (links : Links) → AreWithin lens links → {p q : Point} → IsAtOrBefore links p q → IsPoint lens q → IsPoint lens p
point_upto lens links within at point = point
point_upto lens links within {q = q} (before {q = d} first step) point = point_upto lens links within first (point_before lens links within q point d step).0

own_step : (links : Links) (q : Point) → 0 < q.pos → IsDirectlyBefore links (entry_before q) q
own_step links q later =
    let next : ◌≡◌ {A = Point} (record { rank = q.rank; pos = q.pos - 1 + 1 }) q = same_point _ q refl (omega arith) in
    subst (IsDirectlyBefore links (entry_before q)) next (next_position links q.rank (q.pos - 1))

-- what a point receives, and the point before it on its rank
module _ (lens : List ℕ) (links : Links) (within : AreWithin lens links) (inboxes : List (List (List Source))) (sources : AreSources lens links inboxes) (q : Point) (point : IsPoint lens q) (some : List Source) (are : AreReceived inboxes q some) where
  given : q.pos % 2 ≡ 1 → IsReceived links q some
  given odd = subst (IsReceived links q) (sym (are.return odd)) (received_at lens links inboxes sources q odd)

  -- an entry comes after the point before it alone
  only_own : q.pos % 2 ≡ 0 → (p : Point) → IsBefore links q p → (0 < q.pos) × IsAtOrBefore links p (entry_before q)
  only_own even p (d, step, le) =
      ⊎_elim
      (λ (own : (d.rank ≡ q.rank) × (q.pos ≡ d.pos + 1)).
      let next = own.1 in
      (omega arith, subst (IsAtOrBefore links p) (same_point d (entry_before q) own.0 (omega arith)) le))
      (λ (linked : IsLinked links d q).
      let odd : q.pos ≡ 2 * (linked_within lens links d q within linked).1.0 + 1 = (linked_within lens links d q within linked).1.2 in
      absurd (omega arith))
      (step_cases links d q step)

  sources_known : All (IsSource (length lens) links) some
  sources_known k d lt =
      ⊎_elim
      (λ (even : q.pos % 2 < 1). let none : length some ≡ 0 = ap length (are.entry (omega arith)) in absurd (omega arith))
      (λ (odd : 1 ≤ q.pos % 2).
      let source = get_or some k d in
      let has : Contains some source = Contains-get_or some k d lt in
      source_known lens links q.rank.0 (q.pos / 2) source within (sources.only q.rank.0 (q.pos / 2) source (subst (λ xs. Contains xs source) (are.return (omega arith)) has)))
      (cases_lt (q.pos % 2) 1)

  pub with_own : 0 < q.pos → (more : List Source) → more ≡ some ++ Entry (entry_before q) ∷ [] → AreBefore (length lens) links q more
  with_own later more pushed =
      let own : Point = entry_before q in
      let B : List Source → Type 0 = λ xs. AreBefore (length lens) links q xs in
      let last : (p : Point) → IsAtOrBefore links p own → IsBeforeSome links (some ++ Entry own ∷ []) p = λ p le. (Entry own, Contains-push some (Entry own), (own, refl, le)) in
      subst B (sym pushed) (record {
        known = All-push (IsSource (length lens) links) some (Entry own) sources_known (in_ranks lens q.rank.0 (q.pos / 2) (omega arith));
        into = λ p is. ⊎_elim
            (λ (even : q.pos % 2 < 1). last p (only_own (omega arith) p is).1)
            (λ (odd : 1 ≤ q.pos % 2). ⊎_elim
            (λ le. last p le)
            (λ (found : IsBeforeSome links some p). (found.0, Contains-append_left some (Entry own ∷ []) found.0 found.1, found.2))
            ((given (omega arith)).into p is))
            (cases_lt (q.pos % 2) 1);
        from = λ p found. ⊎_elim
            (λ (early : Contains some found.0). ⊎_elim
            (λ (even : q.pos % 2 < 1). absurd (contains_none found.0 (subst (λ xs. Contains xs found.0) (are.entry (omega arith)) early)))
            (λ (odd : 1 ≤ q.pos % 2). (given (omega arith)).from p (inr (found.0, early, found.2)))
            (cases_lt (q.pos % 2) 1))
            (λ (same : Entry own ≡ found.0).
            let alike = subst (λ s. IsBeforeSource links s p) (sym same) found.2 in
            (own, own_step links q later, subst (IsAtOrBefore links p) (sym alike.1) alike.2))
            (Contains-push_cases some (Entry own) found.0 found.1);
      })

  pub without_own : q.pos ≡ 0 → AreBefore (length lens) links q some
  without_own first = record {
    known = sources_known;
    into = λ p is. let later = (only_own (omega arith) p is).0 in absurd (omega arith);
    from = λ p found. absurd (contains_none found.0 (subst (λ xs. Contains xs found.0) (are.entry (omega arith)) found.1));
  }

-- a row of what is before a point, raised by the points of its rank up to it
pub row_of_point : (links : Links) (ranks : ℕ) (q : Point) (sources : List Source) (old : List ℕ) → AreBefore ranks links q sources → q.rank.0 < length old → IsRow (IsBeforeSome links sources) old
    → IsRow (λ p. IsAtOrBefore links p q) (raised old q.rank.0 (q.pos + 1))
row_of_point links ranks q sources old are there row =
    row_more (IsBeforeSome links sources) (IsAmong q.rank.0 (q.pos + 1)) (λ p. IsAtOrBefore links p q) old (raised old q.rank.0 (q.pos + 1)) row (raised_by_one old q.rank.0 (q.pos + 1) there)
    (λ p le. among_or_before p le)
    (λ p either. ⊎_elim
    (λ (some : IsBeforeSome links sources p). let found = are.from p some in before found.2 found.1)
    (λ (among : IsAmong q.rank.0 (q.pos + 1) p). let R : ℕ → Rank = λ k. record { 0 = k } in let lt = among.1 in later_position links p q (ap R among.0) (omega arith))
    either)
  where
    among_or_before : (p : Point) → IsAtOrBefore links p q → IsBeforeSome links sources p ⊎ IsAmong q.rank.0 (q.pos + 1) p
    among_or_before p at = inr (refl, omega arith)
    among_or_before p (before {q = d} first step) = inl (are.into p (d, step, first))

-- rows that get one for the next point of a rank
module _ (rows new : List (List (List ℕ))) (q : Point) (row : List ℕ) (there : q.rank.0 < length rows) (next : q.pos ≡ length (rows_of rows q.rank.0)) (is : new ≡ set rows q.rank.0 (rows_of rows q.rank.0 ++ row ∷ [])) where
  this_rank : (t : Point) → t.rank.0 ≡ q.rank.0 → rows_of new t.rank.0 ≡ rows_of rows t.rank.0 ++ row ∷ []
  this_rank t same =
      let there_t : t.rank.0 < length rows = omega arith in
      let is_t : new ≡ set rows t.rank.0 (rows_of rows t.rank.0 ++ row ∷ []) = subst (λ r. new ≡ set rows r (rows_of rows r ++ row ∷ [])) (sym same) is in
      ap (λ all. rows_of all t.rank.0) is_t ∙ get_or-set_same rows t.rank.0 _ [] there_t

  other_rank : (t : Point) → (t.rank.0 ≡ q.rank.0 → ⊥) → rows_of new t.rank.0 ≡ rows_of rows t.rank.0
  other_rank t differs = ap (λ all. rows_of all t.rank.0) is ∙ get_or-set_other rows q.rank.0 t.rank.0 _ [] differs

  pub held_kept : (t : Point) → HasRow rows t → HasRow new t × (row_of new t ≡ row_of rows t)
  held_kept t has =
      ⊎_elim
      (λ (same : t.rank.0 ≡ q.rank.0).
      let now = this_rank t same in
      let size : length (rows_of new t.rank.0) ≡ length (rows_of rows t.rank.0) + 1 = ap length now ∙ length_push (rows_of rows t.rank.0) row in
      let H : HasRow new t = omega arith in
      (H, ap (λ all. row_at all t.pos) now ∙ row_kept (rows_of rows t.rank.0) row t.pos has))
      (λ (differs : t.rank.0 ≡ q.rank.0 → ⊥).
      let now = other_rank t differs in
      (subst (λ all. t.pos < length all) (sym now) has, ap (λ all. row_at all t.pos) now))
      (cases_eq t.rank.0 q.rank.0)

  pub held_new : HasRow new q × (row_of new q ≡ row)
  held_new =
      let now = this_rank q refl in
      let size : length (rows_of new q.rank.0) ≡ length (rows_of rows q.rank.0) + 1 = ap length now ∙ length_push (rows_of rows q.rank.0) row in
      let H : HasRow new q = omega arith in
      (H, ap (λ all. row_at all q.pos) now ∙ row_new (rows_of rows q.rank.0) row q.pos next)

  pub held_cases : (t : Point) → HasRow new t → HasRow rows t ⊎ (t ≡ q)
  held_cases t has =
      ⊎_elim
      (λ (same : t.rank.0 ≡ q.rank.0).
      let size : length (rows_of new t.rank.0) ≡ length (rows_of rows t.rank.0) + 1 = ap length (this_rank t same) ∙ length_push (rows_of rows t.rank.0) row in
      let counts : length (rows_of rows t.rank.0) ≡ length (rows_of rows q.rank.0) = ap (λ r. length (rows_of rows r)) same in
      let R : ℕ → Rank = λ k. record { 0 = k } in
      ⊎_elim
      (λ (early : t.pos < q.pos). let H : HasRow rows t = omega arith in inl H)
      (λ (late : q.pos ≤ t.pos). inr (same_point t q (ap R same) (omega arith)))
      (cases_lt t.pos q.pos))
      (λ (differs : t.rank.0 ≡ q.rank.0 → ⊥). inl (subst (λ all. t.pos < length all) (other_rank t differs) has))
      (cases_eq t.rank.0 q.rank.0)

-- rows of the first points of an order
pub record IsFilledTo (lens : List ℕ) (links : Links) (order : List Point) (i : ℕ) (rows : List (List (List ℕ))) : Type 0 where
  pub dense : IsDense (length lens) links rows
  pub there : (j : ℕ) (q : Point) → j < i → IsAt order j q → HasRow rows q
  pub earlier : (q : Point) → HasRow rows q → (j : ℕ) × (j < i) × IsAt order j q

pub filled_none : (lens : List ℕ) (links : Links) (order : List Point) (rows : List (List (List ℕ))) → rows ≡ replicate (length lens) [] → IsFilledTo lens links order 0 rows
filled_none lens links order rows none =
    let never : (q : Point) → HasRow rows q → ⊥ =
    λ q has. let empty : length (rows_of rows q.rank.0) ≡ 0 = ap length (ap (λ all. rows_of all q.rank.0) none ∙ replicate_at (length lens) q.rank.0 []) in absurd (omega arith) in
    record {
      dense = record { size = ap length none ∙ length-replicate (length lens) []; right = λ q has. absurd (never q has) };
      there = λ j q lt is. absurd (omega arith);
      earlier = λ q has. absurd (never q has);
    }

module _ (lens : List ℕ) (links : Links) (order : List Point) (within : AreWithin lens links) (calls : All (λ n. n < 2 ^ 31) lens) (is : IsOrder lens links order) (i : ℕ) (rows : List (List (List ℕ))) (filled : IsFilledTo lens links order i rows)
    (d : Point) (lt : i < length order) where
  abbrev q : Point
  q = get_or order i d

  here : IsAt order i q
  here = slice_get-get_or order i d lt

  pub next_point : IsPoint lens q
  next_point = is.only i q here

  pub next_fits : (q.rank.0 < length rows) × (q.pos + 1 < 2 ^ 32)
  next_fits = let range = in_range lens calls q next_point in let size = filled.dense.size in let there = range.0 in (omega arith, range.1)

  -- all that comes before the next point has rows
  pub held_before : (e : Point) → IsBefore links q e → IsHeld rows e
  held_before e (near, step, le) =
      let point = point_before lens links within q next_point near step in
      let found = is.listed near point.0 in
      let upto : found.0 ≤ i = is.ordered found.0 i near q found.1 here (directly_before links step) in
      let e_point : IsPoint lens e = point_upto lens links within le point.0 in
      let first = is.listed e e_point in
      let not_after : first.0 ≤ found.0 = is.ordered first.0 found.0 e near first.1 found.1 le in
      ⊎_elim
      (λ (less : found.0 < i). (filled.there first.0 e (omega arith) first.1, (in_range lens calls e e_point).1))
      (λ (same : i ≤ found.0).
      let index : found.0 ≡ i = omega arith in
      absurd (point.1 (same_Some near q (sym (subst (λ k. IsAt order k near) index found.1) ∙ here))))
      (cases_lt found.0 i)

  -- and it is the next one of its rank
  next_row : q.pos ≡ length (rows_of rows q.rank.0)
  next_row =
      ⊎_elim
      (λ (has : q.pos < length (rows_of rows q.rank.0)).
      let found = filled.earlier q has in
      let lt = found.1 in
      let same : found.0 ≡ i = is.once found.0 i q found.2 here in
      absurd (omega arith))
      (λ (past : length (rows_of rows q.rank.0) ≤ q.pos).
      ⊎_elim
      (λ (later : 0 < q.pos). let has = (held_before (entry_before q) (entry_before q, own_step links q later, at)).0 in omega arith)
      (λ (first : q.pos ≤ 0). omega arith)
      (cases_lt 0 q.pos))
      (cases_lt q.pos (length (rows_of rows q.rank.0)))

  pub filled_more : (new : List (List (List ℕ))) (row : List ℕ) → new ≡ set rows q.rank.0 (rows_of rows q.rank.0 ++ row ∷ []) → IsRowOf (length rows) links q row → IsFilledTo lens links order (i + 1) new
  filled_more new row more right =
      let there = next_fits.0 in
      let n = length lens in
      record {
        dense = record {
          size = ap length more ∙ length-set rows q.rank.0 _ ∙ filled.dense.size;
          right = λ t has. ⊎_elim
              (λ old. subst (IsRowOf n links t) (sym (held_kept rows new q row there next_row more t old).1) (filled.dense.right t old))
              (λ (same : t ≡ q).
              let R : Point → Type 0 = λ x. IsRowOf n links x (row_of new x) in
              subst R (sym same) (subst (IsRowOf n links q) (sym (held_new rows new q row there next_row more).1) (subst (λ k. IsRowOf k links q row) filled.dense.size right)))
              (held_cases rows new q row there next_row more t has);
        };
        there = λ j t lt at_j. ⊎_elim
            (λ (less : j < i). (held_kept rows new q row there next_row more t (filled.there j t less at_j)).0)
            (λ (last : i ≤ j).
            let index : j ≡ i = omega arith in
            let same : q ≡ t = same_Some q t (sym here ∙ subst (λ k. IsAt order k t) index at_j) in
            subst (HasRow new) same (held_new rows new q row there next_row more).0)
            (cases_lt j i);
        earlier = λ t has. ⊎_elim
            (λ old. let found = filled.earlier t old in let lt = found.1 in (found.0, omega arith, found.2))
            (λ (same : t ≡ q). (i, omega arith, subst (IsAt order i) (sym same) here))
            (held_cases rows new q row there next_row more t has);
      }

pub dense_of : (lens : List ℕ) (links : Links) (order : List Point) (i : ℕ) (clocks : DenseClocks) → IsOrder lens links order → IsFilledTo lens links order i clocks.rows.items → length order ≤ i → AreDense (points_of lens) links clocks
dense_of lens links order i clocks is filled all = record {
  rows = subst (λ n. IsDense n links clocks.rows.items) (sym (length-map lens (λ calls. 2 * calls))) filled.dense;
  there = λ q reached.
      let found = is.listed q (reached_point lens q reached) in
      let lt : found.0 < length order = slice_get_within order found.0 q found.1 in
      filled.there found.0 q (omega arith) found.1;
}
