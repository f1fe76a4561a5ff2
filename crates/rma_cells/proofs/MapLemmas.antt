-- What a range of a map begins and ends with.
use Rattle.std.proofs.Common.{◌≡◌, List, [], ◌∷◌, ◌++◌, Option, Some, None, false, sym, refl, arith, rules, IsSome}
use Rattle.std.specs.Prelude.{ℤ, ◌≤ℤ◌, ◌<ℤ◌}
use Rattle.std.specs.Ordering.{int_cmp, is_gt, is_lt}
use Rattle.std.specs.declared.cmp.Ordering.TheVariants.{Less}
use Rattle.std.specs.declared.ops.Bound.TheVariants.{Included, Excluded, Unbounded}
use Rattle.std.specs.BTreeMap.Range.{IsRangeOf, IsEntryInRange}
use Rattle.std.proofs.lemmas.Int.{ints}
use Rattle.rma_cells.specs.Cell.{Cell}
use Rattle.rma_cells.specs.inside.Table.{CellMap, Table, table, IsFirst, IsLast}

-- the order of numbers as a map reads it
pub not_above : (a b : ℤ) → is_gt (int_cmp a b) ≡ false → a ≤ℤ b
not_above a b h = grind (arith, ints)

pub not_above_from : (a b : ℤ) → a ≤ℤ b → is_gt (int_cmp a b) ≡ false
not_above_from a b h = grind (arith, ints)

pub less : (a b : ℤ) → int_cmp a b ≡ Less → a <ℤ b
less a b h = grind (arith, ints)

pub less_from : (a b : ℤ) → a <ℤ b → int_cmp a b ≡ Less
less_from a b h = grind (arith, ints)

pub not_less : (a b : ℤ) → is_lt (int_cmp a b) ≡ false → b ≤ℤ a
not_less a b h = grind (arith, ints)

pub none_unless : (o : Option Cell) → (IsSome o → ⊥) → o ≡ None
none_unless None never = refl
none_unless (Some x) never = absurd (never (search rules))

pub first_entry : (m : CellMap) (from before : ℤ) (r : List (ℤ × Cell)) (start : ℤ) (cell : Cell) (t : List (ℤ × Cell)) → IsRangeOf int_cmp (Included from) (Excluded before) m r → r ≡ (start, cell) ∷ t
    → (from ≤ℤ start) × (start <ℤ before) × (table m start ≡ Some cell) × ((q : ℤ) → from ≤ℤ q → q <ℤ start → table m q ≡ None)
first_entry m from before r start cell t part is =
    let first : IsEntryInRange int_cmp (Included from) (Excluded before) m (start, cell) = rw is at part.1 in (
      not_above from start first.0.0,
      less start before first.0.1,
      first.1,
      λ q low high. none_unless (table m q) (λ some. absurd (let least = rw is at part.2 q (not_above_from from q low, less_from q before (omega (arith, ints, less start before first.0.1))) some in
          omega (arith, ints, not_above start q least))),
    )

pub no_entry : (m : CellMap) (from before : ℤ) (r : List (ℤ × Cell)) → IsRangeOf int_cmp (Included from) (Excluded before) m r → r ≡ [] → (q : ℤ) → from ≤ℤ q → q <ℤ before → table m q ≡ None
no_entry m from before r part is q low high = part.5 is q (not_above_from from q low, less_from q before high)

pub last_entry : (m : CellMap) (at : ℤ) (r : List (ℤ × Cell)) (start : ℤ) (cell : Cell) (t : List (ℤ × Cell)) → IsRangeOf int_cmp Unbounded (Excluded at) m r → r ≡ t ++ (start, cell) ∷ []
    → (start <ℤ at) × (table m start ≡ Some cell) × ((q : ℤ) → start <ℤ q → q <ℤ at → table m q ≡ None)
last_entry m at r start cell t part is =
    let last = part.3 (start, cell) t is in (
      less start at last.0.1,
      last.1,
      λ q low high. none_unless (table m q) (λ some. absurd (let greatest = part.4 (start, cell) t is q (search rules, less_from q at high) some in
          omega (arith, ints, not_less start q greatest))),
    )

pub no_last_entry : (m : CellMap) (at : ℤ) (r : List (ℤ × Cell)) → IsRangeOf int_cmp Unbounded (Excluded at) m r → r ≡ [] → (q : ℤ) → q <ℤ at → table m q ≡ None
no_last_entry m at r part is q high = part.5 is q (search rules, less_from q at high)

pub is_first : (f : Table) (from before s e s' e' : ℤ) (cell : Cell) → s' ≡ s → e' ≡ e → (from ≤ℤ s) × (s <ℤ before) × (f s ≡ Some cell) × ((q : ℤ) → from ≤ℤ q → q <ℤ s → f q ≡ None) → e ≡ cell.end → IsFirst f from before (record { start = s'; end = e' })
is_first f from before s e s' e' cell same_s same_e facts end = rw (same_s, same_e) (record { from_there = facts.0; below = facts.1; cell = (cell, facts.2, sym end); first = facts.3 })

pub is_last : (f : Table) (at s e s' e' : ℤ) (cell : Cell) → s' ≡ s → e' ≡ e → (s <ℤ at) × (f s ≡ Some cell) × ((q : ℤ) → s <ℤ q → q <ℤ at → f q ≡ None) → e ≡ cell.end → IsLast f at (record { start = s'; end = e' })
is_last f at s e s' e' cell same_s same_e facts end = rw (same_s, same_e) (record { before = facts.0; cell = (cell, facts.1, sym end); last = facts.2 })
