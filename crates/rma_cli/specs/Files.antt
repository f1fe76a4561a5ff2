-- Files that are read as the logs of a run.
use Rattle.std.specs.Prelude.{◌≡◌, ℕ, ◌<◌, length, Bool, true, false, List, [], ◌∷◌, ◌++◌, Option, Some, None, Result, Ok, Err, map, All, nat_le, slice_index_or}
use Rattle.rma_io.specs.LogBytes.{LogBytes}
use Rattle.rma_io.specs.Source.{Source, Opened}
use Rattle.rma_io.specs.declared.source.Failed.{Failed}
use Rattle.rma_io.specs.declared.source.Pull.{Pull}
use Rattle.rma_io.specs.declared.source.Pull.TheVariants.{Bytes, Done}

-- how far the file of a log is read: it is open, and its reads will still give these bytes, where its type says them; it is
-- closed until the log is read, and what it will then have is unknown; or it was read to its end
pub data Progress : Type 0 where
  Open : Option (List ℕ) → Progress
  Closed : Progress
  Ended : Progress

-- the bytes that are left of a log, where they are known
abbrev pub left_of : Progress → Option (List ℕ)
left_of (Open left) = left
left_of Closed = None
left_of Ended = Some []

-- a log: the name of its file, and how far that is read
pub record LogFile : Type 0 where
  pub name : List ℕ
  pub progress : Progress

-- whether the logs are read in turns, each file open from the first, and not one after the other; the log of each rank; the name
-- last refused, the bytes taken, and the count of faults
pub record Files : Type 0 where
  pub in_turns : Bool
  pub files : List LogFile
  pub refused : Option (List ℕ)
  pub taken : ℕ
  pub faults : ℕ

-- no file was opened or refused yet. Logs are read in turns where no more than 256 will be opened
abbrev pub unopened : ℕ → Files
unopened names = record { in_turns = nat_le names 256; files = []; refused = None; taken = 0; faults = 0 }

abbrev pub IsOpen : Progress → Type 0
IsOpen (Open left) = Unit {0}
IsOpen Closed = ⊥
IsOpen Ended = ⊥

-- how far a file is read that was just opened: where logs are read in turns it stays open, and else it is closed
abbrev pub IsJustOpened : Bool → Progress → Type 0
IsJustOpened true progress = IsOpen progress
IsJustOpened false progress = progress ≡ Closed

-- one more file was opened
abbrev pub AddsFile : Files → Files → Type 0
AddsFile old new = (file : LogFile) × (new.files ≡ old.files ++ file ∷ []) × IsJustOpened old.in_turns file.progress

-- at most one file is open
abbrev pub AreOneByOne : List LogFile → Type 0
AreOneByOne files = (rank other : ℕ) → (d : LogFile) → rank < length files → other < length files
    → IsOpen (slice_index_or files rank d).progress → IsOpen (slice_index_or files other d).progress → rank ≡ other

-- what is known of the bytes of a log: a file does not keep what was taken of it
abbrev pub bytes_of : LogFile → LogBytes
bytes_of file = record { taken = None; left = left_of file.progress }

abbrev pub logs_of : List LogFile → List LogBytes
logs_of files = map bytes_of files

abbrev pub names_of : List LogFile → List (List ℕ)
names_of files = map (λ file. file.name) files

-- the files as a source, which has a log a file
abbrev pub source_of : Files → Source
source_of files = record { logs = logs_of files.files; taken = files.taken; faults = files.faults }

abbrev pub opened_of : Files → Opened
opened_of files = record { names = names_of files.files; refused = files.refused }

-- a file of which a pull took bytes is open, for what is left of it; and a pull says that nothing is left only where every file was
-- read to its end
abbrev pub SawEnds : Result Pull Failed → Files → Type 0
SawEnds (Ok (Bytes rank len)) files = (d : LogFile) → IsOpen (slice_index_or files.files rank d).progress
SawEnds (Ok Done) files = All (λ file. file.progress ≡ Ended) files.files
SawEnds (Err fault) files = Unit {0}
