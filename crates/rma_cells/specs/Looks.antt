-- How many cells are looked at.
use Rattle.std.specs.Prelude.{ℕ, ◌+◌, ℤ, int_lt, Bool, ◌&&◌, List, sum_by, count_by}
use Rattle.rma_bytes.specs.declared.run.Run.{Run}
use Rattle.rma_bytes.specs.Runs.{end_of}
use Rattle.rma_cells.specs.Cell.{Cell}

-- whether a cell, with its first byte, has a byte of a run
abbrev pub is_met : Run → ℤ × Cell → Bool
is_met run entry = int_lt entry.0 (end_of run) && int_lt run.start entry.1.end

-- for each run the cells that it meets, and one more
abbrev pub looks : List (ℤ × Cell) → List Run → ℕ
looks cells runs = sum_by (λ run. count_by (is_met run) cells + 1) runs
