-- Lists of numbers that are cut into blocks of a table.
use Rattle.std.specs.Prelude.{ℕ, ◌≡◌, ◌+◌, ◌*◌, ◌<◌, List, ◌++◌, length, slice_index}

-- a table that has more numbers at its end
abbrev pub IsGrown : List ℕ → List ℕ → Type 0
IsGrown old new = (more : List ℕ) × (new ≡ old ++ more)

-- a block stands in a table from this place on
abbrev pub IsBlock : List ℕ → ℕ → List ℕ → Type 0
IsBlock table start block = (j : ℕ) → j < length block → (start + j < length table) × (slice_index table (start + j) ≡ slice_index block j)

-- the first numbers of a list, as many as the last argument says, stand in blocks of a table, each of so many numbers, from these places on
abbrev pub AreBlocks : ℕ → List ℕ → List ℕ → List ℕ → ℕ → Type 0
AreBlocks size table starts list upto =
    (b j : ℕ) → j < size → b * size + j < upto
    → (b < length starts) × (slice_index starts b + j < length table) × (slice_index table (slice_index starts b + j) ≡ slice_index list (b * size + j))
