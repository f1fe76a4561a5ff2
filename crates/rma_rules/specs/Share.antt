-- What bytes have in common with others, and with the part of a rank in a window (MPI 4.0, "One-Sided Communications").
use Rattle.std.specs.Prelude.{◌≡◌, ℤ, pos, List, Option, Some}
use Rattle.rma_base.specs.declared.window.WinModel.TheVariants.{Separate}
use Rattle.rma_bytes.specs.declared.run.Run.{Run}
use Rattle.rma_bytes.specs.Runs.{HasByte, IsByteOf}
use Rattle.rma_window.specs.declared.part.Part.{Part}
use Rattle.rma_window.specs.declared.window_id.WindowId.{WindowId}
use Rattle.rma_window.specs.Windows.{Window, part_of, window_of}
use Rattle.rma_rules.specs.Access.{Access}

-- two sets have a byte in common
unfoldable pub ShareByte : List Run → List Run → Type 0
ShareByte xs ys = (b : ℤ) × HasByte xs b × HasByte ys b

-- a byte of a set lies in a run
unfoldable pub MeetsRun : List Run → Run → Type 0
MeetsRun xs run = (b : ℤ) × HasByte xs b × IsByteOf run b

-- each byte of a set lies in a run
unfoldable pub LiesIn : List Run → Run → Type 0
LiesIn xs run = (b : ℤ) → HasByte xs b → IsByteOf run b

-- the bytes of a part
abbrev pub run_of_part : Part → Run
run_of_part part = record { start = pos part.base; len = part.size }

-- a byte of an access lies in the part that the rank whose memory it touches has of a window
unfoldable pub MeetsPart : List Window → Access → Option WindowId → Type 0
MeetsPart windows a through =
    (window : WindowId) × (part : Part) × (through ≡ Some window) × (part_of windows window a.memory ≡ Some part) × MeetsRun a.runs (run_of_part part)

-- a window has the separate memory model
abbrev pub IsSeparate : List Window → WindowId → Type 0
IsSeparate windows id = (window : Window) × (window_of windows id ≡ Some window) × (window.model ≡ Separate)

-- an access is made through a window, which has the separate memory model
unfoldable pub IsThroughSeparate : List Window → Access → WindowId → Type 0
IsThroughSeparate windows a id = (a.window ≡ Some id) × IsSeparate windows id

-- an access is made through some window of the separate memory model
unfoldable pub IsSeparateAt : List Window → Access → Type 0
IsSeparateAt windows a = (id : WindowId) × IsThroughSeparate windows a id
