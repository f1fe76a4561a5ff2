-- What stands on the bytes of a run, by the cells that have them.
use Rattle.std.proofs.Common.{◌≡◌, ℕ, zero, suc, ◌≤◌, List, [], ◌∷◌, Bool, true, false, cond, Some, None, ap, ◌∙◌, ◌++◌, refl, arith, inl, inr, ◌⊎◌, ◌↔◌, ⊎_elim, count_by}
use Rattle.std.specs.Prelude.{◌≤ℤ◌, ℤ, ◌<ℤ◌, int_lt}
use Rattle.std.specs.List.{Contains, filter}
use Rattle.std.specs.Ordering.{int_cmp}
use Rattle.std.specs.BTreeMap.{IsOrdered}
use Rattle.std.specs.Cmp.{int_cmp_total}
use Rattle.std.proofs.lemmas.Map.Lookups.{exact_signed}
use Rattle.std.proofs.lemmas.Map.Views.{btree_map_get_iff}
use Rattle.std.proofs.lemmas.List.Elements.{Contains-append_left, Contains-append_right, Contains-append_cases, All-contains, All-filter, All-contains_itself, filter_passes}
use Rattle.std.proofs.lemmas.List.Sums.{sum_by-cons}
use Rattle.std.proofs.lemmas.Bool.{false≢true}
use Rattle.std.proofs.lemmas.Map.Views.{IsInRange-from_range_contains, range_contains-from_IsInRange}
use Rattle.std.specs.declared.ops.Bound.TheVariants.{Included, Excluded}
use Rattle.rma_cells.proofs.TableLemmas.{in_order, same_some, not_none}
use Rattle.rma_cells.proofs.MapLemmas.{not_above, not_above_from, less, less_from}
use Rattle.std.proofs.lemmas.Int.{ints, by_lt_z}
use Rattle.rma_bytes.specs.declared.run.Run.{Run}
use Rattle.rma_bytes.specs.Runs.{end_of}
use Rattle.rma_cells.specs.Cell.{Cell}
use Rattle.rma_cells.specs.Looks.{is_met}
use Rattle.rma_cells.specs.inside.Table.{Table, CellMap, table, Stands, IsSound, IsBetween, StandsAcross, BeginsWithin, begins_within}

-- what stands on a run is of the cell that has its first byte and the one before, or of a cell that begins within
pub stands_on_run : (f : Table) → IsSound f → (start end : ℤ) → start <ℤ end → (id : ℕ) → (StandsAcross f start id ⊎ BeginsWithin f start end id) ↔ ((b : ℤ) × Stands f id b × IsBetween start end b)
stands_on_run f sound start end some id = (
  λ or. ⊎_elim (λ (x : StandsAcross f start id). (start, (x.0, x.1, x.2, omega (arith, ints, x.3), x.4, x.5), (omega (arith, ints), some)))
      (λ (x : BeginsWithin f start end id). (x.0, (x.0, x.1, x.2, omega (arith, ints), sound.filled x.0 x.1 x.2, x.4), x.3)) or,
  λ on. let s = on.1.0 in let c = on.1.1 in
      by_lt_z s start (λ lt. inl (s, c, on.1.2, lt, omega (arith, ints, on.2.0, on.1.4), on.1.5))
      (λ ge. inr (s, c, on.1.2, (ge, omega (arith, ints, on.2.1, on.1.3)), on.1.5)),
)

-- ids of some cells
abbrev pub HasId : List (ℤ × Cell) → ℕ → Type 0
HasId entries id = (entry : ℤ × Cell) × Contains entries entry × Contains entry.1.ids id

pub has_none : (id : ℕ) → HasId [] id → ⊥
has_none id has = omega (arith, has.1.1)

pub has_cons : (entry : ℤ × Cell) (entries : List (ℤ × Cell)) (id : ℕ) → HasId (entry ∷ entries) id ↔ (Contains entry.1.ids id ⊎ HasId entries id)
has_cons entry entries id = (
  λ has. split has.0 has.1 has.2,
  λ or. ⊎_elim (λ (h : Contains entry.1.ids id). (entry, (zero, omega arith, refl), h)) (λ (h : HasId entries id). (h.0, (suc h.1.0, omega (arith, h.1.1), h.1.2), h.2)) or,
)
  where
    split : (e : ℤ × Cell) → Contains (entry ∷ entries) e → Contains e.1.ids id → Contains entry.1.ids id ⊎ HasId entries id
    split e (zero, lt, is) has = inl (rw is has)
    split e (suc k, lt, is) has = inr (e, (k, omega arith, is), has)

-- what a filter keeps
pub filter_has : (p : ℤ × Cell → Bool) (entries : List (ℤ × Cell)) (e : ℤ × Cell) → Contains (filter p entries) e ↔ (Contains entries e × (p e ≡ true))
filter_has p entries e = (
  λ has. (All-contains (Contains entries) (filter p entries) e (All-filter p (Contains entries) entries (All-contains_itself entries)) has, All-contains (λ x. p x ≡ true) (filter p entries) e (filter_passes p entries) has),
  λ both. keeps entries both.0 both.1,
)
  where
    keeps : (es : List (ℤ × Cell)) → Contains es e → p e ≡ true → Contains (filter p es) e
    keeps [] has passes = absurd (omega (arith, has.1))
    keeps (x ∷ xs) (zero, lt, is) passes = rw is (rw passes (zero, omega arith, refl))
    keeps (x ∷ xs) (suc k, lt, is) passes = more (p x) (keeps xs (k, omega arith, is) passes)
      where
        more : (b : Bool) → Contains (filter p xs) e → Contains (cond b (x ∷ filter p xs) (filter p xs)) e
        more true has = (suc has.0, omega (arith, has.1), has.2)
        more false has = has

pub within_test : (start end : ℤ) (e : ℤ × Cell) → (begins_within start end e ≡ true) ↔ IsBetween start end e.0
within_test start end e = (
  λ test. let both = IsInRange-from_range_contains int_cmp_total (Included start) (Excluded end) e.0 test in (not_above start e.0 both.0, less e.0 end both.1),
  λ both. range_contains-from_IsInRange int_cmp_total (Included start) (Excluded end) e.0 (not_above_from start e.0 both.0, less_from e.0 end both.1),
)

-- the entries of a map are what a look-up finds
pub entry_iff : (m : CellMap) → IsOrdered int_cmp m → (e : ℤ × Cell) → (table m e.0 ≡ Some e.1) ↔ Contains m.entries e
entry_iff m ordered e = btree_map_get_iff int_cmp_total exact_signed m ordered e.0 e.1

-- the cells that begin within a run, as entries of the map
pub begins_entries : (m : CellMap) → IsOrdered int_cmp m → (start end : ℤ) (id : ℕ) → HasId (filter (begins_within start end) m.entries) id ↔ BeginsWithin (table m) start end id
begins_entries m ordered start end id = (
  λ has. let both = (filter_has (begins_within start end) m.entries has.0).0 has.1 in
      (has.0.0, has.0.1, (entry_iff m ordered has.0).1 both.0, (within_test start end has.0).0 both.1, has.2),
  λ begins. let e : ℤ × Cell = (begins.0, begins.1) in
      (e, (filter_has (begins_within start end) m.entries e).1 ((entry_iff m ordered e).0 begins.2, (within_test start end e).1 begins.3), begins.4),
)

-- fewer pass a stricter test
pub count_le : (p q : ℤ × Cell → Bool) (entries : List (ℤ × Cell)) → ((e : ℤ × Cell) → Contains entries e → p e ≡ true → q e ≡ true) → count_by p entries ≤ count_by q entries
count_le p q [] weaker = omega arith
count_le p q (x ∷ xs) weaker =
    let rest = count_le p q xs (λ e has. weaker e (suc has.0, omega (arith, has.1), has.2)) in
    let left = sum_by-cons (λ (e : ℤ × Cell). cond (p e) 1 0) x xs in
    let right = sum_by-cons (λ (e : ℤ × Cell). cond (q e) 1 0) x xs in
    let first = one (p x) (q x) (weaker x (zero, omega arith, refl)) in
    omega arith
  where
    one : (a b : Bool) → (a ≡ true → b ≡ true) → cond a 1 0 ≤ cond b 1 0
    one false b h = omega arith
    one true true h = omega arith
    one true false h = absurd (false≢true (h refl))

-- the cells that begin within a run are among those that it meets
pub count_met : (m : CellMap) → IsOrdered int_cmp m → IsSound (table m) → (run : Run) → count_by (begins_within run.start (end_of run)) m.entries ≤ count_by (is_met run) m.entries
count_met m ordered sound run = count_le (begins_within run.start (end_of run)) (is_met run) m.entries (λ e has test.
    let both = (within_test run.start (end_of run) e).0 test in
    met e both (sound.filled e.0 e.1 ((entry_iff m ordered e).1 has)))
  where
    met : (e : ℤ × Cell) → IsBetween run.start (end_of run) e.0 → e.0 <ℤ e.1.end → is_met run e ≡ true
    met e both filled =
        let first : int_lt e.0 (end_of run) ≡ true = grind (arith, ints) in
        let second : int_lt run.start e.1.end ≡ true = grind (arith, ints) in
        rw first second

-- one cell more is looked at
pub look_more : (out next : List ℕ) (e : ℤ × Cell) (rest left : List (ℤ × Cell)) → rest ≡ e ∷ left → next ≡ out ++ e.1.ids → (id : ℕ) → (Contains next id ⊎ HasId left id) ↔ (Contains out id ⊎ HasId rest id)
look_more out next e rest left is grown id =
    rw is (rw grown (
      λ or. ⊎_elim (λ (h : Contains (out ++ e.1.ids) id). ⊎_elim (λ (old : Contains out id). inl old) (λ (new : Contains e.1.ids id). inr ((has_cons e left id).1 (inl new))) (Contains-append_cases out e.1.ids id h)) (λ (h : HasId left id). inr ((has_cons e left id).1 (inr h))) or,
      λ or. ⊎_elim (λ (old : Contains out id). inl (Contains-append_left out e.1.ids id old)) (λ (h : HasId (e ∷ left) id). ⊎_elim (λ (new : Contains e.1.ids id). inl (Contains-append_right out e.1.ids id new)) (λ (more : HasId left id). inr more) ((has_cons e left id).0 h)) or,
    ))

-- the ids of one cell come to a list
pub one_more : (out next ids : List ℕ) → next ≡ out ++ ids → (id : ℕ) → Contains next id ↔ (Contains out id ⊎ Contains ids id)
one_more out next ids grown id = rw grown (λ h. Contains-append_cases out ids id h, λ or. ⊎_elim (λ (old : Contains out id). Contains-append_left out ids id old) (λ (new : Contains ids id). Contains-append_right out ids id new) or)

-- the last cell that begins before a byte is the one that has it and the one before, if one does
module _ (f : Table) (sound : IsSound f) (at s : ℤ) (c : Cell) (at_s : f s ≡ Some c) (low : s <ℤ at) (last : (start : ℤ) → s <ℤ start → start <ℤ at → f start ≡ None) where
  is_the_last : (t : ℤ) (d : Cell) → f t ≡ Some d → t <ℤ at → at <ℤ d.end → d ≡ c
  is_the_last t d is lt over =
      ⊎_elim (λ (l : t <ℤ s). absurd (let far = sound.apart t d s c is at_s l in omega (arith, ints)))
      (λ more. ⊎_elim (λ (e : t ≡ s). same_some d c (f t) is (ap f e ∙ at_s)) (λ (g : s <ℤ t). absurd (not_none d (f t) is (last t g lt))) more) (in_order t s)

  pub across_iff : at <ℤ c.end → (id : ℕ) → Contains c.ids id ↔ StandsAcross f at id
  across_iff over id = (λ has. (s, c, at_s, low, over, has), λ across. let e = is_the_last across.0 across.1 across.2 across.3 across.4 in rw (ap (λ k. k.ids) e) at across.5)

  pub across_none : c.end ≤ℤ at → (id : ℕ) → StandsAcross f at id → ⊥
  across_none short id across = let e = ap (λ (k : Cell). k.end) (is_the_last across.0 across.1 across.2 across.3 across.4) in omega (arith, ints, across.4)

pub across_first : (f : Table) (at : ℤ) → ((start : ℤ) → start <ℤ at → f start ≡ None) → (id : ℕ) → StandsAcross f at id → ⊥
across_first f at none id across = not_none across.1 (f across.0) across.2 (none across.0 across.3)

pub same_or_none : (P Q : Type 0) → (Q → ⊥) → P ↔ (P ⊎ Q)
same_or_none P Q never = (λ x. inl x, λ or. ⊎_elim (λ (x : P). x) (λ (y : Q). absurd (never y)) or)

-- what a look at a run adds
pub looked : (f : Table) → IsSound f → (start end : ℤ) → start <ℤ end → (out mid next : List ℕ) → ((id : ℕ) → Contains mid id ↔ (Contains out id ⊎ StandsAcross f start id)) → ((id : ℕ) → Contains next id ↔ (Contains mid id ⊎ BeginsWithin f start end id))
    → (id : ℕ) → Contains next id ↔ (Contains out id ⊎ ((b : ℤ) × Stands f id b × IsBetween start end b))
looked f sound start end some out mid next one two id =
    let on = stands_on_run f sound start end some id in (
      λ has. ⊎_elim (λ (h : Contains mid id). ⊎_elim (λ (old : Contains out id). inl old) (λ (new : StandsAcross f start id). inr (on.0 (inl new))) ((one id).0 h)) (λ (new : BeginsWithin f start end id). inr (on.0 (inr new))) ((two id).0 has),
      λ or. ⊎_elim (λ (old : Contains out id). (two id).1 (inl ((one id).1 (inl old))))
          (λ (stands : (b : ℤ) × Stands f id b × IsBetween start end b). ⊎_elim (λ (new : StandsAcross f start id). (two id).1 (inl ((one id).1 (inr new)))) (λ (new : BeginsWithin f start end id). (two id).1 (inr new)) (on.1 stands)) or,
    )

-- a range of the map is what passes the test, where its bounds and its list are read through equal ones
pub range_is : (m : CellMap) (list range : List (ℤ × Cell)) (start from end before : ℤ) → from ≡ start → before ≡ end → list ≡ range → range ≡ filter (begins_within from before) m.entries → list ≡ filter (begins_within start end) m.entries
range_is m list range start from end before same_start same_end same is = same ∙ is ∙ ap (λ (x : ℤ). filter (begins_within x before) m.entries) same_start ∙ ap (λ (x : ℤ). filter (begins_within start x) m.entries) same_end

-- the second of two cases, said otherwise
pub or_alike : (A B C D : Type 0) → A ↔ (B ⊎ C) → C ↔ D → A ↔ (B ⊎ D)
or_alike A B C D one two = (λ a. ⊎_elim (λ (x : B). inl x) (λ (x : C). inr (two.0 x)) (one.0 a), λ or. one.1 (⊎_elim (λ (x : B). inl x) (λ (x : D). inr (two.1 x)) or))

-- a list to which all cells that were left have come
pub left_none : (out start : List ℕ) (left all : List (ℤ × Cell)) → left ≡ [] → (id : ℕ) → (Contains out id ⊎ HasId left id) ↔ (Contains start id ⊎ HasId all id) → Contains out id ↔ (Contains start id ⊎ HasId all id)
left_none out start left all none id both = (λ has. both.0 (inl has), λ or. ⊎_elim (λ (has : Contains out id). has) (λ (more : HasId left id). absurd (has_none id (rw none at more))) (both.1 or))
