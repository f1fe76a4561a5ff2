-- Rows of numbers that share blocks.
use Rattle.std.specs.Prelude.{ℕ, ◌≡◌, ◌+◌, ◌<◌, ◌/◌, ◌%◌, List, map, length, slice_index}
use Rattle.std.specs.List.{range_with_len}
use Rattle.rma_clock.specs.declared.rows.Place.{Place}

-- where a block of a row starts, by the number of the block and by where the upper index of the row starts
abbrev pub start_at : List ℕ → List ℕ → ℕ → ℕ → ℕ
start_at lower upper start block = slice_index lower (slice_index upper (start + block / 8) + block % 8)

-- the number at an index of a row
abbrev pub number_at : List ℕ → List ℕ → List ℕ → ℕ → ℕ → ℕ
number_at numbers lower upper start i = slice_index numbers (start_at lower upper start (i / 16) + i % 16)

-- what is looked up for it stands in each table
pub record IsFound (numbers lower upper : List ℕ) (start i : ℕ) : Type 0 where
  pub top : start + i / 16 / 8 < length upper
  pub middle : slice_index upper (start + i / 16 / 8) + i / 16 % 8 < length lower
  pub bottom : start_at lower upper start (i / 16) + i % 16 < length numbers

-- a row, read back
unfoldable pub row_of : List ℕ → List ℕ → List ℕ → Place → List ℕ
row_of numbers lower upper place = map (number_at numbers lower upper place.start) (range_with_len 0 place.width)

-- all numbers of a row can be looked up
abbrev pub IsPlaced : List ℕ → List ℕ → List ℕ → Place → Type 0
IsPlaced numbers lower upper place = (i : ℕ) → i < place.width → IsFound numbers lower upper place.start i

-- a list is stored, with its upper index from this place on
abbrev pub IsStored : List ℕ → List ℕ → List ℕ → ℕ → List ℕ → Type 0
IsStored numbers lower upper start row = (i : ℕ) → i < length row → IsFound numbers lower upper start i × (number_at numbers lower upper start i ≡ slice_index row i)
