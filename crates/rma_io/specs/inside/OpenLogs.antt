-- How far each open log was read, apart from the bytes themselves.
use Rattle.std.specs.Prelude.{◌≡◌, ℕ, ◌+◌, ◌-◌, ◌<◌, List, [], All, Option, Some, None, IfSome, length, map, min, take, drop, slice_get, slice_set, slice_index}
use Rattle.rma_io.specs.Log.{Log}
use Rattle.rma_io.specs.Schedule.{Cut, IsZero, IsIdle, IsNext, NoneIsNext}
use Rattle.rma_io.specs.declared.open_log.Chunk.{Chunk}

-- one open log: its name, the number of the file that has its bytes, how many of them were taken and how many are left
pub record Progress : Type 0 where
  pub name : List ℕ
  pub file : ℕ
  pub at : ℕ
  pub left : ℕ

-- the open logs by rank, and the pairs that are left to read by
pub record OpenLogs : Type 0 where
  pub logs : List Progress
  pub cuts : List Cut

-- how many bytes each log has left, by rank
abbrev pub lefts : List Progress → List ℕ
lefts logs = map (λ log. log.left) logs

-- a log of len bytes of which nothing was taken
abbrev pub unread : List ℕ → ℕ → ℕ → Progress
unread name file len = record { name = name; file = file; at = 0; left = len }

-- a log after n more bytes were taken
abbrev pub advanced : ℕ → Progress → Progress
advanced n log = record log { at = log.at + n; left = log.left - n }

-- the log that this represents, where the files have these bytes
abbrev pub log_at : (ℕ → List ℕ) → Progress → Log
log_at files log = record { name = log.name; taken = take log.at (files log.file); left = drop log.at (files log.file) }

abbrev pub logs_at : (ℕ → List ℕ) → List Progress → List Log
logs_at files logs = map (log_at files) logs

-- what was taken of a log and what is left are all of its file
abbrev pub FitsFile : (ℕ → List ℕ) → Progress → Type 0
FitsFile files log = log.at + log.left ≡ length (files log.file)

-- the pair at this index is the first whose log has bytes left
abbrev pub IsFirstLive : List ℕ → List Cut → ℕ → Type 0
IsFirstLive left cuts index =
    All (IsIdle left) (take index cuts) × IfSome (slice_get cuts index) (λ cut. 0 < slice_index left cut.0) × (index < length cuts)

-- the first pair whose log has bytes left
abbrev pub IsNextCut : List ℕ → List Cut → Option Cut → List Cut → Type 0
IsNextCut left cuts (Some cut) unused =
    (index : ℕ) × All (IsIdle left) (take index cuts) × (slice_get cuts index ≡ Some cut)
    × (0 < slice_index left cut.0) × (unused ≡ drop (index + 1) cuts)
IsNextCut left cuts None unused = All (IsIdle left) cuts × (unused ≡ [])

-- the lowest rank with bytes left
abbrev pub IsFirstLeft : List ℕ → Option ℕ → Type 0
IsFirstLeft left (Some rank) = All IsZero (take rank left) × (0 < slice_index left rank)
IsFirstLeft left None = All IsZero left

-- the next bytes of the log of this rank were taken, as many as are there up to a limit
abbrev pub IsChunkOf : OpenLogs → ℕ → ℕ → Chunk → OpenLogs → Type 0
IsChunkOf old rank most chunk new =
    (log : Progress) × (slice_get old.logs rank ≡ Some log) × (chunk.rank ≡ rank) × (chunk.len ≡ min most log.left)
    × (chunk.file ≡ log.file) × (chunk.at ≡ log.at)
    × (new ≡ record old { logs = slice_set old.logs rank (advanced chunk.len log) })

-- the bytes to read next were taken
abbrev pub IsNextChunk : OpenLogs → ℕ → Option Chunk → OpenLogs → Type 0
IsNextChunk old room (Some chunk) new =
    (log : Progress) × (slice_get old.logs chunk.rank ≡ Some log) × (chunk.file ≡ log.file) × (chunk.at ≡ log.at)
    × IsNext (lefts old.logs) old.cuts room chunk.rank chunk.len new.cuts
    × (new.logs ≡ slice_set old.logs chunk.rank (advanced chunk.len log))
IsNextChunk old room None new = NoneIsNext (lefts old.logs) new.cuts × (new.logs ≡ old.logs)
