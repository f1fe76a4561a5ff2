-- What the calls of a source of logs mean.
use Rattle.std.specs.Prelude.{◌≡◌, ℕ, ◌+◌, ◌<◌, ◌≤◌, List, [], ◌∷◌, ◌++◌, Option, Some, Result, Ok, Err, length, take, OnErr, All, IsErrOf, is_ok, if◌then◌else◌}
use Rattle.std.specs.Io.KnownBytes.{IsAtEnd}
use Rattle.rma_io.specs.Count.{Rose}
use Rattle.rma_io.specs.LogBytes.{LogBytes, IsUntouched, TakesFrom, AllStay}
use Rattle.rma_io.specs.declared.source.Failed.{Failed}
use Rattle.rma_io.specs.declared.source.OpenFault.{OpenFault}
use Rattle.rma_io.specs.declared.source.OpenFault.TheVariants as refusal
use Rattle.rma_io.specs.declared.source.Pull.{Pull}
use Rattle.rma_io.specs.declared.source.Pull.TheVariants.{Bytes, Done}

-- a source: what is known of the bytes of each of its logs, how many bytes were taken of all of them, and the count of
-- its faults
pub record Source : Type 0 where
  pub logs : List LogBytes
  pub taken : ℕ
  pub faults : ℕ

-- how many bytes a pull took
abbrev pub pulled_len : Result Pull Failed → ℕ
pulled_len (Ok (Bytes rank len)) = len
pulled_len (Ok Done) = 0
pulled_len (Err e) = 0

-- bytes come from one of so many logs, at least one byte, and no more than there is room for
abbrev pub IsWithin : ℕ → ℕ → Result Pull Failed → Type 0
IsWithin logs room (Ok (Bytes rank len)) = (rank < logs) × (1 ≤ len) × (len ≤ room)
IsWithin logs room (Ok Done) = Unit {0}
IsWithin logs room (Err e) = Unit {0}

-- nothing is left of any log
abbrev pub AreRead : List LogBytes → Type 0
AreRead logs = All (λ log. IsAtEnd log.left) logs

-- what a pull does to the logs: it takes the bytes that it gives, it is done only where nothing is left of any log, and a
-- failed one takes nothing
abbrev pub MovesBytes : List ℕ → Result Pull Failed → List LogBytes → List LogBytes → Type 0
MovesBytes room (Ok (Bytes rank len)) before after = TakesFrom rank (take len room) before after
MovesBytes room (Ok Done) before after = AllStay before after × AreRead after
MovesBytes room (Err e) before after = AllStay before after

-- a pull into this room gave this answer
pub record IsPulled (old : Source) (room : List ℕ) (answer : Result Pull Failed) (new : Source) : Type 0 where
  pub within : IsWithin (length old.logs) (length room) answer
  pub same_logs : length new.logs ≡ length old.logs
  pub taken : new.taken ≡ old.taken + pulled_len answer
  pub moved : MovesBytes room answer old.logs new.logs
  pub never_falls : old.faults ≤ new.faults
  pub failed : OnErr answer (Rose old.faults new.faults)

-- the names that a source opened, in order, where the k-th from 0 is the log of rank k; and the name that it last refused
pub record Opened : Type 0 where
  pub names : List (List ℕ)
  pub refused : Option (List ℕ)

-- the name last refused, after one more open
abbrev pub refused_after : Option (List ℕ) → List ℕ → Result Unit OpenFault → Option (List ℕ)
refused_after refused name (Ok x) = refused
refused_after refused name (Err refusal.Failed) = Some name
refused_after refused name (Err refusal.Memory) = refused

-- what an open does to the logs: it adds one of which nothing was taken, or changes nothing
abbrev pub AddsLog : Result Unit OpenFault → List LogBytes → List LogBytes → Type 0
AddsLog (Ok x) before after = (log : LogBytes) × IsUntouched log × (after ≡ before ++ log ∷ [])
AddsLog (Err e) before after = after ≡ before

-- an open of this name gave this answer
pub record IsOpened (old : Source) (opened : Opened) (name : List ℕ) (answer : Result Unit OpenFault) (new : Source) (now_opened : Opened) : Type 0 where
  pub names : now_opened.names ≡ (if is_ok answer then opened.names ++ name ∷ [] else opened.names)
  pub refused : now_opened.refused ≡ refused_after opened.refused name answer
  pub taken : new.taken ≡ old.taken
  pub added : AddsLog answer old.logs new.logs
  pub never_falls : old.faults ≤ new.faults
  pub failed : IsErrOf answer refusal.Failed → Rose old.faults new.faults
