-- How far files are read, and which are still to be read.
use Rattle.std.specs.Prelude.{◌≡◌, ℕ, ◌<◌, List, Option, length, Contains, slice_index_or}
use Rattle.std.specs.Io.KnownBytes.{IsAtEnd}
use Rattle.rma_io.specs.LogBytes.{AllStay}
use Rattle.rma_cli.specs.Files as files
use Rattle.rma_cli.specs.Files.{Progress, LogFile, logs_of, names_of}
use Rattle.rma_cli.specs.declared.file_logs.Reading.{Reading}
use Rattle.rma_cli.specs.declared.file_logs.Reading.TheVariants.{Open, Closed, Ended}

-- how far a file is read, by what its type says of the bytes that are left of it
abbrev pub progress_of : {F : Type 0} → (F → Option (List ℕ)) → Reading F → Progress
progress_of remaining (Open file) = files.Open (remaining file)
progress_of remaining Closed = files.Closed
progress_of remaining Ended = files.Ended

-- a file was opened, and nothing is left of it
abbrev pub IsReadToEnd : Progress → Type 0
IsReadToEnd (files.Open left) = IsAtEnd left
IsReadToEnd files.Closed = ⊥
IsReadToEnd files.Ended = Unit {0}

-- the files of other ranks than these were read to their ends
abbrev pub OthersEnded : List ℕ → List LogFile → Type 0
OthersEnded unended logs = (rank : ℕ) → (d : LogFile) → rank < length logs → ¬ Contains unended rank → (slice_index_or logs rank d).progress ≡ files.Ended

-- no file is open but that of the first of these ranks
abbrev pub OneOpen : List ℕ → List LogFile → Type 0
OneOpen unended logs = (rank : ℕ) → (d : LogFile) → rank < length logs → files.IsOpen (slice_index_or logs rank d).progress
    → (0 < length unended) × (slice_index_or unended 0 rank ≡ rank)

-- files before and after reads that took nothing
pub record NothingTaken (before after : List LogFile) : Type 0 where
  pub same_files : length after ≡ length before
  pub names : names_of after ≡ names_of before
  pub stay : AllStay (logs_of before) (logs_of after)
