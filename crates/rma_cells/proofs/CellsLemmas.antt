-- The cells of a map are all cells of what stands.
use Rattle.std.proofs.Common.{◌≤◌, take, ◌≢◌, ◌≡◌, ℕ, zero, suc, ◌<◌, List, [], ◌∷◌, length, Some, sym, refl, ap, ap₂, ◌∙◌, arith, inl, inr, ◌⊎◌, ◌↔◌, ⊎_elim}
use Rattle.std.specs.Prelude.{ℤ, pos, ◌-ℤ◌, ◌≤ℤ◌, ◌<ℤ◌}
use Rattle.std.specs.declared.cmp.Ordering.TheVariants.{Less}
use Rattle.std.specs.List.{Contains, AllByRecursion}
use Rattle.std.specs.List.Sorted.{IsStrictlySortedBy}
use Rattle.std.specs.Map.{keys_of}
use Rattle.std.specs.Ordering.{int_cmp}
use Rattle.std.specs.BTreeMap.{IsOrdered}
use Rattle.std.proofs.lemmas.Int.{ints}
use Rattle.std.proofs.lemmas.Map.Keys.{sorted_head, sorted_tail}
use Rattle.rma_cells.specs.Cell.{Cell}
use Rattle.rma_cells.specs.Cells.{AreAlike, StandsAt, IsCell, AreCells, CellsAreUnique}
use Rattle.rma_cells.specs.inside.Table.{Table, CellMap, table, Stands, IsSound, IsNormal, IsBetween}
use Rattle.rma_bytes.specs.declared.run.Run.{Run}
use Rattle.rma_bytes.specs.Runs.{HasByte}
use Rattle.rma_cells.specs.inside.Table.{StandAlike}
use Rattle.rma_cells.proofs.ByteLemmas.{take_has, take_all}
use Rattle.rma_cells.proofs.IdLemmas.{same_ids, contains_nil}
use Rattle.rma_cells.proofs.MapLemmas.{less}
use Rattle.rma_cells.proofs.TableLemmas.{in_order, stands_in}
use Rattle.rma_cells.proofs.LookLemmas.{entry_iff}

-- what stands by the list of the entries stands by the table
pub stands_iff : (m : CellMap) → IsOrdered int_cmp m → (id : ℕ) (b : ℤ) → StandsAt m.entries id b ↔ Stands (table m) id b
stands_iff m ordered id b = (
  λ at. (at.0.0, at.0.1, (entry_iff m ordered at.0).1 at.1, at.2, at.3, at.4),
  λ in_table. let e : ℤ × Cell = (in_table.0, in_table.1) in (e, (entry_iff m ordered e).0 in_table.2, in_table.3, in_table.4, in_table.5),
)

-- a cell of what stands by one relation is one by another that says the same
pub cell_by_same : (R S : ℕ → ℤ → Type 0) → ((id : ℕ) (b : ℤ) → R id b ↔ S id b) → (start : ℤ) (cell : Cell) → IsCell R start cell → IsCell S start cell
cell_by_same R S same start cell is = record {
  filled = is.filled;
  some = is.some;
  ascending = is.ascending;
  alike = λ b within id. (λ s. (is.alike b within id).0 ((same id b).1 s), λ has. (same id b).0 ((is.alike b within id).1 has));
  begins = λ alike. is.begins (back (start -ℤ pos 1) start alike);
  ends = λ alike. is.ends (back (cell.end -ℤ pos 1) cell.end alike);
}
  where
    back : (a b : ℤ) → AreAlike S a b → AreAlike R a b
    back a b alike id = (λ r. (same id b).1 ((alike id).0 ((same id a).0 r)), λ r. (same id a).1 ((alike id).1 ((same id b).0 r)))

module _ (f : Table) (normal : IsNormal f) where
  sound : IsSound f
  sound = normal.sound

  pub entry_is_cell : (start : ℤ) (cell : Cell) → f start ≡ Some cell → IsCell (Stands f) start cell
  entry_is_cell start cell is = record {
    filled = sound.filled start cell is;
    some = sound.some start cell is;
    ascending = sound.ascending start cell is;
    alike = λ b within id. (λ s. stands_in f sound start cell id b is within s, λ has. (start, cell, is, within.0, within.1, has));
    begins = normal.maximal start (start, cell, is, inl refl);
    ends = normal.maximal cell.end (start, cell, is, inr refl);
  }

  pub cell_is_entry : (start : ℤ) (cell : Cell) → IsCell (Stands f) start cell → f start ≡ Some cell
  cell_is_entry start cell is =
      let first = (is.alike start (omega (arith, ints), is.filled) is.some.0).1 is.some.1 in
      there first.0 first.1 first.2 first.3 first.4
    where
      -- two bytes of one cell of the table are alike
      same_cell : (s : ℤ) (c : Cell) → f s ≡ Some c → (a b : ℤ) → IsBetween s c.end a → IsBetween s c.end b → AreAlike (Stands f) a b
      same_cell s c at_s a b in_a in_b id = (λ x. (s, c, at_s, in_b.0, in_b.1, stands_in f sound s c id a at_s in_a x), λ x. (s, c, at_s, in_a.0, in_a.1, stands_in f sound s c id b at_s in_b x))

      there : (s : ℤ) (c : Cell) → f s ≡ Some c → s ≤ℤ start → start <ℤ c.end → f start ≡ Some cell
      there s c at_s low high =
          let filled = is.filled in
          let start_same : s ≡ start = ⊎_elim (λ (lt : s <ℤ start). absurd (is.begins (same_cell s c at_s (start -ℤ pos 1) start (omega (arith, ints), omega (arith, ints)) (low, high)))) (λ more. ⊎_elim (λ (e : s ≡ start). e) (λ (gt : start <ℤ s). absurd (omega (arith, ints))) more) (in_order s start) in
          let not_short : cell.end <ℤ c.end → ⊥ = λ lt. is.ends (same_cell s c at_s (cell.end -ℤ pos 1) cell.end (omega (arith, ints), omega (arith, ints)) (omega (arith, ints), lt)) in
          let not_long : c.end <ℤ cell.end → ⊥ = λ lt. normal.maximal c.end (s, c, at_s, inr refl) (λ id. let one = is.alike (c.end -ℤ pos 1) (omega (arith, ints), omega (arith, ints)) id in let two = is.alike c.end (omega (arith, ints), lt) id in (λ x. two.1 (one.0 x), λ x. one.1 (two.0 x))) in
          let end_same : c.end ≡ cell.end = ⊎_elim (λ (lt : c.end <ℤ cell.end). absurd (not_long lt)) (λ more. ⊎_elim (λ (e : c.end ≡ cell.end). e) (λ (gt : cell.end <ℤ c.end). absurd (not_short gt)) more) (in_order c.end cell.end) in
          let ids_same : c.ids ≡ cell.ids = same_ids c.ids cell.ids (sound.ascending s c at_s) is.ascending (λ x. (λ has. (is.alike start (omega (arith, ints), is.filled) x).0 (s, c, at_s, low, high, has), λ has. stands_in f sound s c x start at_s (low, high) ((is.alike start (omega (arith, ints), is.filled) x).1 has))) in
          let cell_same : c ≡ cell = ap₂ (λ (e : ℤ) (i : List ℕ). let made : Cell = record { end = e; ids = i } in made) end_same ids_same in
          ap f (sym start_same) ∙ at_s ∙ ap Some cell_same

pub are_cells : (m : CellMap) → IsOrdered int_cmp m → IsNormal (table m) → AreCells (StandsAt m.entries) m.entries
are_cells m ordered normal = record {
  in_order = ordered;
  all = λ start cell. let e : ℤ × Cell = (start, cell) in (
    λ has. cell_by_same (Stands (table m)) (StandsAt m.entries) (λ id b. ((stands_iff m ordered id b).1, (stands_iff m ordered id b).0)) start cell (entry_is_cell (table m) normal start cell ((entry_iff m ordered e).1 has)),
    λ is. (entry_iff m ordered e).0 (cell_is_entry (table m) normal start cell (cell_by_same (StandsAt m.entries) (Stands (table m)) (stands_iff m ordered) start cell is)),
  );
}

-- ---- lists in order with the same entries are equal
after : (e : ℤ × Cell) (es : List (ℤ × Cell)) → IsStrictlySortedBy int_cmp (keys_of (e ∷ es)) → (x : ℤ × Cell) → Contains es x → e.0 <ℤ x.0
after e es up x has = less e.0 x.0 (each es (sorted_head int_cmp e.0 (keys_of es) up) has)
  where
    each : (xs : List (ℤ × Cell)) → AllByRecursion (λ y. int_cmp e.0 y ≡ Less) (keys_of xs) → Contains xs x → int_cmp e.0 x.0 ≡ Less
    each [] all has = absurd (omega (arith, has.1))
    each (y ∷ ys) all (zero, lt, is) = rw (← is) all.0
    each (y ∷ ys) all (suc k, lt, is) = each ys all.1 (k, omega arith, is)

entry_cons : (y : ℤ × Cell) (ys : List (ℤ × Cell)) (x : ℤ × Cell) → Contains (y ∷ ys) x → (x ≡ y) ⊎ Contains ys x
entry_cons y ys x (zero, lt, is) = inl (sym is)
entry_cons y ys x (suc k, lt, is) = inr (k, omega arith, is)

entry_head : (y : ℤ × Cell) (ys : List (ℤ × Cell)) → Contains (y ∷ ys) y
entry_head y ys = (zero, omega arith, refl)

entry_tail : (y : ℤ × Cell) (ys : List (ℤ × Cell)) (x : ℤ × Cell) → Contains ys x → Contains (y ∷ ys) x
entry_tail y ys x has = let lt : has.0 < length ys = has.1 in (suc has.0, omega arith, has.2)

same_entries : (xs ys : List (ℤ × Cell)) → IsStrictlySortedBy int_cmp (keys_of xs) → IsStrictlySortedBy int_cmp (keys_of ys) → ((e : ℤ × Cell) → Contains xs e ↔ Contains ys e) → xs ≡ ys
same_entries [] [] up_x up_y same = refl
same_entries [] (y ∷ ys) up_x up_y same = absurd (omega (arith, ((same y).1 (entry_head y ys)).1))
same_entries (x ∷ xs) [] up_x up_y same = absurd (omega (arith, ((same x).0 (entry_head x xs)).1))
same_entries (x ∷ xs) (y ∷ ys) up_x up_y same =
    let rest = same_entries xs ys (sorted_tail int_cmp x.0 (keys_of xs) up_x) (sorted_tail int_cmp y.0 (keys_of ys) up_y) tails in
    ap₂ (λ (e : ℤ × Cell) (es : List (ℤ × Cell)). e ∷ es) heads rest
  where
    heads : x ≡ y
    heads = ⊎_elim (λ (e : x ≡ y). e)
        (λ (in_y : Contains ys x). ⊎_elim (λ (e : y ≡ x). sym e) (λ (in_x : Contains xs y). absurd (let one = after x xs up_x y in_x in let two = after y ys up_y x in_y in omega (arith, ints))) (entry_cons x xs y ((same y).1 (entry_head y ys))))
        (entry_cons y ys x ((same x).0 (entry_head x xs)))

    tails : (e : ℤ × Cell) → Contains xs e ↔ Contains ys e
    tails e = (
      λ has. ⊎_elim (λ (q : e ≡ y). absurd (let far = after x xs up_x e has in let head : e.0 ≡ x.0 = ap (λ k. k.0) (q ∙ sym heads) in omega (arith, ints))) (λ (h : Contains ys e). h) (entry_cons y ys e ((same e).0 (entry_tail x xs e has))),
      λ has. ⊎_elim (λ (q : e ≡ x). absurd (let far = after y ys up_y e has in let head : e.0 ≡ y.0 = ap (λ k. k.0) (q ∙ heads) in omega (arith, ints))) (λ (h : Contains xs e). h) (entry_cons x xs e ((same e).1 (entry_tail y ys e has))),
    )

pub cells_unique : CellsAreUnique
cells_unique xs ys are_x are_y same = same_entries xs ys are_x.in_order are_y.in_order (λ e. (
  λ has. (are_y.all e.0 e.1).1 (cell_by_same (StandsAt xs) (StandsAt ys) same e.0 e.1 ((are_x.all e.0 e.1).0 has)),
  λ has. (are_x.all e.0 e.1).1 (cell_by_same (StandsAt ys) (StandsAt xs) (λ id b. ((same id b).1, (same id b).0)) e.0 e.1 ((are_y.all e.0 e.1).0 has)),
))

-- ---- what the calls say, by the lists of the cells
-- maps on which the same ids stand have the same cells
pub same_cells : (m n : CellMap) → IsOrdered int_cmp m → IsNormal (table m) → IsOrdered int_cmp n → IsNormal (table n) → StandAlike (table m) (table n) → n.entries ≡ m.entries
same_cells m n ordered normal new_ordered new_normal alike = cells_unique n.entries m.entries (are_cells n new_ordered new_normal) (are_cells m ordered normal)
    (λ id b. let in_m = stands_iff m ordered id b in let in_n = stands_iff n new_ordered id b in (λ x. in_m.1 ((alike id b).0 (in_n.0 x)), λ x. in_n.1 ((alike id b).1 (in_m.0 x))))

pub added_at : (m n : CellMap) → IsOrdered int_cmp m → IsOrdered int_cmp n → (id : ℕ) (runs : List Run) → ((other : ℕ) (b : ℤ) → Stands (table n) other b ↔ (Stands (table m) other b ⊎ ((other ≡ id) × HasByte runs b)))
    → (other : ℕ) (b : ℤ) → StandsAt n.entries other b ↔ (StandsAt m.entries other b ⊎ ((other ≡ id) × HasByte runs b))
added_at m n ordered new_ordered id runs told other b =
    let in_m = stands_iff m ordered other b in
    let in_n = stands_iff n new_ordered other b in (
      λ x. ⊎_elim (λ (old : Stands (table m) other b). inl (in_m.1 old)) (λ (new : (other ≡ id) × HasByte runs b). inr new) ((told other b).0 (in_n.0 x)),
      λ or. in_n.1 ((told other b).1 (⊎_elim (λ (old : StandsAt m.entries other b). inl (in_m.0 old)) (λ (new : (other ≡ id) × HasByte runs b). inr new) or)),
    )

pub removed_at : (m n : CellMap) → IsOrdered int_cmp m → IsOrdered int_cmp n → (id : ℕ) → ((other : ℕ) (b : ℤ) → Stands (table n) other b ↔ (Stands (table m) other b × (other ≢ id)))
    → (other : ℕ) (b : ℤ) → StandsAt n.entries other b ↔ (StandsAt m.entries other b × (other ≢ id))
removed_at m n ordered new_ordered id told other b =
    let in_m = stands_iff m ordered other b in
    let in_n = stands_iff n new_ordered other b in
    (λ x. let both = (told other b).0 (in_n.0 x) in (in_m.1 both.0, both.1), λ both. in_n.1 ((told other b).1 (in_m.0 both.0, both.1)))

pub absent_at : (m : CellMap) → IsOrdered int_cmp m → (id : ℕ) → ((b : ℤ) → StandsAt m.entries id b → ⊥) → (b : ℤ) → Stands (table m) id b → ⊥
absent_at m ordered id absent b stands = absent b ((stands_iff m ordered id b).1 stands)

pub present_at : (m : CellMap) → IsOrdered int_cmp m → (id : ℕ) (runs : List Run) (n : ℕ) → length runs ≤ n → ((b : ℤ) → StandsAt m.entries id b ↔ HasByte runs b) → (b : ℤ) → Stands (table m) id b ↔ HasByte (take n runs) b
present_at m ordered id runs n le present b =
    let at = stands_iff m ordered id b in
    (λ x. take_all runs n b le ((present b).0 (at.1 x)), λ x. at.0 ((present b).1 (take_has runs n b x)))

pub met_at : (m : CellMap) → IsOrdered int_cmp m → (runs : List Run) (out : List ℕ) → ((id : ℕ) → Contains out id ↔ (Contains [] id ⊎ ((b : ℤ) × Stands (table m) id b × HasByte runs b)))
    → (id : ℕ) → Contains out id ↔ ((b : ℤ) × StandsAt m.entries id b × HasByte runs b)
met_at m ordered runs out told id = (
  λ has. ⊎_elim (λ (none : Contains [] id). absurd (contains_nil id none)) (λ (on : (b : ℤ) × Stands (table m) id b × HasByte runs b). (on.0, (stands_iff m ordered id on.0).1 on.1, on.2)) ((told id).0 has),
  λ on. (told id).1 (inr (on.0, (stands_iff m ordered id on.0).0 on.1, on.2)),
)
