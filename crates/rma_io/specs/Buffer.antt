-- A buffer of bytes in memory, of a size that never grows.
use Rattle.std.specs.Prelude.{◌≡◌, ℕ, ◌<◌, ◌^◌, List, [], ◌++◌, Option, Some, None, length, min, take, nat_le, if◌then◌else◌}
use Rattle.rma_io.specs.Count.{raised}

-- how many bytes fit the buffer; the first of the bytes passed on, which fit it; and the number of those passed on
pub record Buffer : Type 0 where
  pub size : ℕ
  pub kept : List ℕ
  pub passed : ℕ

-- an empty buffer of this size
abbrev pub empty : ℕ → Buffer
empty size = record { size = size; kept = []; passed = 0 }

-- a buffer after this piece was passed on to it
abbrev pub after_passing : List ℕ → Buffer → Buffer
after_passing piece buffer = record {
  size = buffer.size;
  kept = take buffer.size (buffer.kept ++ piece);
  passed = raised buffer.passed (length piece);
}

-- the bytes passed on, which are known as long as all of them fit the buffer
abbrev pub known_by : Buffer → Option (List ℕ)
known_by buffer = if nat_le buffer.passed buffer.size then Some buffer.kept else None

-- what is true of every buffer
pub record IsBuffer (buffer : Buffer) : Type 0 where
  pub fits : length buffer.kept ≡ min buffer.passed buffer.size
  pub small : buffer.size < 2 ^ 63
