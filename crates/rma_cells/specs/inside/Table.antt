-- Cells by their first bytes.
use Rattle.std.specs.Prelude.{◌≡◌, ◌≢◌, ℕ, ℤ, pos, ◌-ℤ◌, ◌≤ℤ◌, ◌<ℤ◌, ◌⊎◌, ◌↔◌, Option, Some, None, Bool}
use Rattle.std.specs.List.{Contains}
use Rattle.std.specs.List.Sorted.{IsStrictlyIncreasing}
use Rattle.std.specs.Ordering.{int_cmp}
use Rattle.std.specs.BTreeMap.{BTreeMap, get}
use Rattle.std.specs.BTreeMap.Range.{range_contains}
use Rattle.std.specs.declared.ops.Bound.TheVariants.{Included, Excluded}
use Rattle.rma_cells.specs.Cell.{Cell}
use Rattle.rma_cells.specs.declared.cell_map.Extent.{Extent}
use Rattle.rma_cells.specs.Cells.{AreAlike}

-- the cell that begins at a byte, if one does
abbrev pub Table : Type 0
Table = ℤ → Option Cell

abbrev pub CellMap : Type 0
CellMap = BTreeMap ℤ Cell

abbrev pub table : CellMap → Table
table map = get int_cmp map

-- an id stands on a byte
abbrev pub Stands : Table → ℕ → ℤ → Type 0
Stands f id b = (start : ℤ) × (cell : Cell) × (f start ≡ Some cell) × (start ≤ℤ b) × (b <ℤ cell.end) × Contains cell.ids id

-- the cells have bytes and ids, and none overlaps another
pub record IsSound (f : Table) : Type 0 where
  pub filled : (start : ℤ) (cell : Cell) → f start ≡ Some cell → start <ℤ cell.end
  pub some : (start : ℤ) (cell : Cell) → f start ≡ Some cell → (id : ℕ) × Contains cell.ids id
  pub ascending : (start : ℤ) (cell : Cell) → f start ≡ Some cell → IsStrictlyIncreasing cell.ids
  pub apart : (start : ℤ) (cell : Cell) (later : ℤ) (next : Cell) → f start ≡ Some cell → f later ≡ Some next → start <ℤ later → cell.end ≤ℤ later

-- a cell begins or ends at a byte
abbrev pub IsBoundary : Table → ℤ → Type 0
IsBoundary f x = (start : ℤ) × (cell : Cell) × (f start ≡ Some cell) × ((x ≡ start) ⊎ (x ≡ cell.end))

-- no cell has the byte and the one before
abbrev pub IsCut : Table → ℤ → Type 0
IsCut f x = (start : ℤ) (cell : Cell) → f start ≡ Some cell → start <ℤ x → cell.end ≤ℤ x

-- no cell could be larger
abbrev pub IsMaximal : Table → Type 0
IsMaximal f = (x : ℤ) → IsBoundary f x → AreAlike (Stands f) (x -ℤ pos 1) x → ⊥

-- the last cell that begins before a byte
pub record IsLast (f : Table) (at : ℤ) (extent : Extent) : Type 0 where
  pub before : extent.start <ℤ at
  pub cell : (cell : Cell) × (f extent.start ≡ Some cell) × (cell.end ≡ extent.end)
  pub last : (start : ℤ) → extent.start <ℤ start → start <ℤ at → f start ≡ None

-- the first cell that begins from one byte on and before another
pub record IsFirst (f : Table) (from before : ℤ) (extent : Extent) : Type 0 where
  pub from_there : from ≤ℤ extent.start
  pub below : extent.start <ℤ before
  pub cell : (cell : Cell) × (f extent.start ≡ Some cell) × (cell.end ≡ extent.end)
  pub first : (start : ℤ) → from ≤ℤ start → start <ℤ extent.start → f start ≡ None

-- a table with another entry at a byte
pub record Puts (f : Table) (start : ℤ) (entry : Option Cell) (g : Table) : Type 0 where
  pub here : g start ≡ entry
  pub others : (other : ℤ) → other ≢ start → g other ≡ f other

-- two tables with the same entries
abbrev pub IsSameTable : Table → Table → Type 0
IsSameTable f g = (start : ℤ) → g start ≡ f start

-- a cell with one more id
pub record Inserts (cell : Cell) (id : ℕ) (next : Cell) : Type 0 where
  pub end : next.end ≡ cell.end
  pub ascending : IsStrictlyIncreasing next.ids
  pub ids : (other : ℕ) → Contains next.ids other ↔ (Contains cell.ids other ⊎ (other ≡ id))

-- a cell without an id
pub record Removes (cell : Cell) (id : ℕ) (next : Cell) : Type 0 where
  pub end : next.end ≡ cell.end
  pub ascending : IsStrictlyIncreasing next.ids
  pub ids : (other : ℕ) → Contains next.ids other ↔ (Contains cell.ids other × (other ≢ id))

-- a byte lies from one number on and before another
abbrev pub IsBetween : ℤ → ℤ → ℤ → Type 0
IsBetween from before b = (from ≤ℤ b) × (b <ℤ before)

-- the same ids stand on each byte
abbrev pub StandAlike : Table → Table → Type 0
StandAlike f g = (id : ℕ) (b : ℤ) → Stands g id b ↔ Stands f id b

-- the cell that has a byte and the one before is cut in two there
pub record Cuts (f : Table) (at : ℤ) (g : Table) : Type 0 where
  pub sound : IsSound g
  pub same : StandAlike f g
  pub boundaries : (x : ℤ) → IsBoundary g x → IsBoundary f x ⊎ (x ≡ at)
  pub cuts : (x : ℤ) → IsCut f x → IsCut g x

-- two cells that meet at a byte, on which the same ids stand, are one
pub record Merges (f : Table) (at : ℤ) (g : Table) : Type 0 where
  pub sound : IsSound g
  pub same : StandAlike f g
  pub boundaries : (x : ℤ) → IsBoundary g x → IsBoundary f x
  pub apart : IsBoundary g at → AreAlike (Stands g) (at -ℤ pos 1) at → ⊥

-- an id comes to stand on the bytes from one number on and before another, by cells that end at a third at the latest
pub record Grows (f : Table) (id : ℕ) (from to before : ℤ) (g : Table) : Type 0 where
  pub sound : IsSound g
  pub up : from ≤ℤ to
  pub within : to ≤ℤ before
  pub stands : (other : ℕ) (b : ℤ) → Stands g other b ↔ (Stands f other b ⊎ ((other ≡ id) × IsBetween from to b))
  pub boundaries : (x : ℤ) → IsBoundary g x → IsBoundary f x ⊎ ((x ≡ from) ⊎ (x ≡ before))
  pub cuts : (x : ℤ) → IsCut f x → (x ≤ℤ from) ⊎ (to ≤ℤ x) → IsCut g x

-- an id is gone from the bytes from one number on and before another
pub record Clears (f : Table) (id : ℕ) (from to : ℤ) (g : Table) : Type 0 where
  pub sound : IsSound g
  pub stands : (other : ℕ) (b : ℤ) → Stands g other b ↔ (Stands f other b × ((other ≡ id) → IsBetween from to b → ⊥))
  pub boundaries : (x : ℤ) → IsBoundary g x → IsBoundary f x
  pub cuts : (x : ℤ) → IsCut f x → IsCut g x

-- and the cells on both sides of these two numbers are merged where they are alike
pub record ClearsRun (f : Table) (id : ℕ) (from to : ℤ) (g : Table) : Type 0 where
  pub sound : IsSound g
  pub stands : (other : ℕ) (b : ℤ) → Stands g other b ↔ (Stands f other b × ((other ≡ id) → IsBetween from to b → ⊥))
  pub boundaries : (x : ℤ) → IsBoundary g x → IsBoundary f x
  pub apart : (x : ℤ) → IsBoundary g x → (x ≡ from) ⊎ (x ≡ to) → AreAlike (Stands g) (x -ℤ pos 1) x → ⊥

-- sound cells, none of which could be larger
pub record IsNormal (f : Table) : Type 0 where
  pub sound : IsSound f
  pub maximal : IsMaximal f

-- the cells are cut at both ends of a run
pub record CutsEnds (f : Table) (start end : ℤ) (g : Table) : Type 0 where
  pub sound : IsSound g
  pub boundaries : (x : ℤ) → IsBoundary g x → IsBoundary f x ⊎ ((x ≡ start) ⊎ (x ≡ end))
  pub cut : IsCut g start
  pub cut_end : IsCut g end

-- a cell that has a byte and the one before has an id
abbrev pub StandsAcross : Table → ℤ → ℕ → Type 0
StandsAcross f at id = (start : ℤ) × (cell : Cell) × (f start ≡ Some cell) × (start <ℤ at) × (at <ℤ cell.end) × Contains cell.ids id

-- a cell that begins within a run has an id
abbrev pub BeginsWithin : Table → ℤ → ℤ → ℕ → Type 0
BeginsWithin f from before id = (start : ℤ) × (cell : Cell) × (f start ≡ Some cell) × IsBetween from before start × Contains cell.ids id

-- whether a cell, with its first byte, begins within a run
abbrev pub begins_within : ℤ → ℤ → ℤ × Cell → Bool
begins_within from before entry = range_contains int_cmp (Included from) (Excluded before) entry.0
