-- The logs that a source in memory has opened.
use Rattle.std.specs.Prelude.{◌≡◌, ℕ, List, [], ◌++◌, Some, length, map, take, drop, slice_get, slice_set}
use Rattle.rma_io.specs.LogBytes.{LogBytes}

-- one log: the name by which it was opened, the bytes taken from it, and those left
pub record Log : Type 0 where
  pub name : List ℕ
  pub taken : List ℕ
  pub left : List ℕ

-- a log with these bytes, of which nothing was taken yet
abbrev pub untouched : List ℕ → List ℕ → Log
untouched name bytes = record { name = name; taken = []; left = bytes }

-- all the bytes of a log are known
abbrev pub known_bytes : Log → LogBytes
known_bytes log = record { taken = Some log.taken; left = Some log.left }

-- the names of logs, in order
abbrev pub names_of : List Log → List (List ℕ)
names_of logs = map (λ log. log.name) logs

-- how many bytes each log has left, by rank
abbrev pub bytes_left : List Log → List ℕ
bytes_left logs = map (λ log. length log.left) logs

-- a log after its next n bytes were taken
abbrev pub after_taking : ℕ → Log → Log
after_taking n log = record { name = log.name; taken = log.taken ++ take n log.left; left = drop n log.left }

-- the next n bytes of the log of this rank were taken, and stand at the front of the room; nothing else changed
pub record ReadsLog (rank n : ℕ) (before : List Log) (room : List ℕ) (after : List Log) (filled : List ℕ) : Type 0 where
  pub log : Log
  pub ranked : slice_get before rank ≡ Some log
  pub moved : after ≡ slice_set before rank (after_taking n log)
  pub fills : filled ≡ take n log.left ++ drop n room
