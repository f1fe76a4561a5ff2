-- Ids that stand on bytes, and the cells that this cuts the bytes into.
use Rattle.std.specs.Prelude.{◌≡◌, ℕ, ℤ, pos, ◌-ℤ◌, ◌≤ℤ◌, ◌<ℤ◌, ◌↔◌, List}
use Rattle.std.specs.List.{Contains}
use Rattle.std.specs.List.Sorted.{IsStrictlyIncreasing, IsStrictlySortedBy}
use Rattle.std.specs.Ordering.{int_cmp}
use Rattle.std.specs.Map.{keys_of}
use Rattle.rma_cells.specs.Cell.{Cell}

-- an id stands on a byte, by a list of cells, each with its first byte
abbrev pub StandsAt : List (ℤ × Cell) → ℕ → ℤ → Type 0
StandsAt cells id b = (entry : ℤ × Cell) × Contains cells entry × (entry.0 ≤ℤ b) × (b <ℤ entry.1.end) × Contains entry.1.ids id

-- the same ids stand on two bytes
abbrev pub AreAlike : (ℕ → ℤ → Type 0) → ℤ → ℤ → Type 0
AreAlike stands a b = (id : ℕ) → stands id a ↔ stands id b

-- a cell is as many bytes side by side as there are on which one and the same set of ids stands, which is not empty
pub record IsCell (stands : ℕ → ℤ → Type 0) (start : ℤ) (cell : Cell) : Type 0 where
  pub filled : start <ℤ cell.end
  pub some : (id : ℕ) × Contains cell.ids id
  pub ascending : IsStrictlyIncreasing cell.ids
  pub alike : (b : ℤ) → (start ≤ℤ b) × (b <ℤ cell.end) → (id : ℕ) → stands id b ↔ Contains cell.ids id
  pub begins : AreAlike stands (start -ℤ pos 1) start → ⊥
  pub ends : AreAlike stands (cell.end -ℤ pos 1) cell.end → ⊥

-- the list of all cells, in the order of their first bytes
pub record AreCells (stands : ℕ → ℤ → Type 0) (cells : List (ℤ × Cell)) : Type 0 where
  pub in_order : IsStrictlySortedBy int_cmp (keys_of cells)
  pub all : (start : ℤ) (cell : Cell) → Contains cells (start, cell) ↔ IsCell stands start cell

-- two lists of all cells by which the same ids stand on each byte are equal
abbrev pub CellsAreUnique : Type 0
CellsAreUnique = (xs ys : List (ℤ × Cell)) → AreCells (StandsAt xs) xs → AreCells (StandsAt ys) ys → ((id : ℕ) (b : ℤ) → StandsAt xs id b ↔ StandsAt ys id b) → xs ≡ ys
