-- A source of logs in memory that never fails.
use Rattle.std.specs.Prelude.{◌≡◌, ℕ, ◌+◌, List, [], ◌∷◌, ◌++◌, None, Result, Ok, Err, length, map, slice_index_or, Vec}
use Rattle.std.specs.declared.alloc.Global.{Global}
use Rattle.rma_io.specs.Log.{Log, untouched, known_bytes, names_of}
use Rattle.rma_io.specs.Schedule.{Cut}
use Rattle.rma_io.specs.ScheduledRead.{IsScheduledRead}
use Rattle.rma_io.specs.Source.{Source, Opened, pulled_len}
use Rattle.rma_io.specs.declared.source.Failed.{Failed}
use Rattle.rma_io.specs.declared.source.OpenFault.{OpenFault}
use Rattle.rma_io.specs.declared.source.OpenFault.TheVariants as refusal
use Rattle.rma_io.specs.declared.source.Pull.{Pull}

-- the bytes of each log, in the order in which they are opened; the pairs that are left to read by; the logs
-- opened, and the bytes taken
pub record SureSource : Type 0 where
  pub contents : List (List ℕ)
  pub cuts : List Cut
  pub logs : List Log
  pub taken : ℕ

abbrev pub contents_of : List (Vec ℕ Global) → List (List ℕ)
contents_of logs = map (λ log. log.items) logs

-- the bytes of the log of this number, or none
abbrev pub text_of : List (List ℕ) → ℕ → List ℕ
text_of contents number = slice_index_or contents number []

-- a source that was not called yet
abbrev pub unopened : List (List ℕ) → List Cut → SureSource
unopened contents cuts = record { contents = contents; cuts = cuts; logs = []; taken = 0 }

-- its bytes are known, and it has no faults
abbrev pub source_of : SureSource → Source
source_of sure = record { logs = map known_bytes sure.logs; taken = sure.taken; faults = 0 }

abbrev pub opened_of : SureSource → Opened
opened_of sure = record { names = names_of sure.logs; refused = None }

-- the names opened stay
abbrev pub KeepsOpened : SureSource → SureSource → Type 0
KeepsOpened before after = opened_of after ≡ opened_of before

-- a pull into this room gave this answer, and left the room so
abbrev pub IsSurePull : SureSource → List ℕ → Result Pull Failed → SureSource → List ℕ → Type 0
IsSurePull old room (Ok pull) new filled =
    IsScheduledRead old.logs old.cuts room pull new.logs new.cuts filled
    × (new ≡ record old { cuts = new.cuts; logs = new.logs; taken = old.taken + pulled_len (Ok pull) })
IsSurePull old room (Err e) new filled = ⊥

-- an open of this name gave this answer: the next of the logs, or an empty one where there is none
abbrev pub IsSureOpen : SureSource → List ℕ → Result Unit OpenFault → SureSource → Type 0
IsSureOpen old name (Ok x) new =
    new ≡ record old { logs = old.logs ++ untouched name (text_of old.contents (length old.logs)) ∷ [] }
IsSureOpen old name (Err refusal.Failed) new = ⊥
IsSureOpen old name (Err refusal.Memory) new = new ≡ old
