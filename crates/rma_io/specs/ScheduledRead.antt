-- What a pull from memory does that does not fail.
use Rattle.std.specs.Prelude.{◌≡◌, ℕ, List, length}
use Rattle.rma_io.specs.Log.{Log, bytes_left, ReadsLog}
use Rattle.rma_io.specs.Schedule.{Cut, IsNext, NoneIsNext}
use Rattle.rma_io.specs.declared.source.Pull.{Pull}
use Rattle.rma_io.specs.declared.source.Pull.TheVariants.{Bytes, Done}

-- it reads the log that is next, or is done where none is
abbrev pub IsScheduledRead : List Log → List Cut → List ℕ → Pull → List Log → List Cut → List ℕ → Type 0
IsScheduledRead before cuts room (Bytes rank len) after unused filled =
    IsNext (bytes_left before) cuts (length room) rank len unused × ReadsLog rank len before room after filled
IsScheduledRead before cuts room Done after unused filled =
    NoneIsNext (bytes_left before) unused × (after ≡ before) × (filled ≡ room)
