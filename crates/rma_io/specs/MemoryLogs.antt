-- A source of logs in memory, which can be told to fail.
use Rattle.std.specs.Prelude.{◌≡◌, ◌≢◌, ℕ, ◌+◌, ◌⊎◌, List, [], ◌∷◌, ◌++◌, All, Contains, Option, Some, None, Result, Ok, Err, map, take, slice_get, slice_index_or, Vec, string_bytes, String}
use Rattle.std.specs.declared.alloc.Global.{Global}
use Rattle.rma_io.specs.Count.{raised}
use Rattle.rma_io.specs.Log.{Log, untouched, known_bytes, names_of}
use Rattle.rma_io.specs.Schedule.{Cut}
use Rattle.rma_io.specs.ScheduledRead.{IsScheduledRead}
use Rattle.rma_io.specs.Source.{Source, Opened, pulled_len}
use Rattle.rma_io.specs.declared.source.Failed.{Failed}
use Rattle.rma_io.specs.declared.source.OpenFault.{OpenFault}
use Rattle.rma_io.specs.declared.source.OpenFault.TheVariants as refusal
use Rattle.rma_io.specs.declared.source.Pull.{Pull}

-- a file: its name and its bytes
pub record File : Type 0 where
  pub name : List ℕ
  pub bytes : List ℕ

abbrev pub file_of : (String Global × Vec ℕ Global) → File
file_of file = record { name = string_bytes file.0; bytes = file.1.items }

abbrev pub files_of : List (String Global × Vec ℕ Global) → List File
files_of files = map file_of files

-- the bytes of the file at this index, or none where there is no such file
abbrev pub text_of : List File → ℕ → List ℕ
text_of files index = (slice_index_or files index (record { name = []; bytes = [] })).bytes

-- the files that a source has; the pairs that are left to read by; the numbers of the calls that fail, and how
-- many calls there were; the logs opened, the name last refused, the bytes taken and the count of faults
pub record MemorySource : Type 0 where
  pub files : List File
  pub cuts : List Cut
  pub fails : List ℕ
  pub calls : ℕ
  pub logs : List Log
  pub refused : Option (List ℕ)
  pub taken : ℕ
  pub faults : ℕ

-- a source that was not called yet
abbrev pub uncalled : List File → List Cut → List ℕ → MemorySource
uncalled files cuts fails = record {
  files = files;
  cuts = cuts;
  fails = fails;
  calls = 0;
  logs = [];
  refused = None;
  taken = 0;
  faults = 0;
}

-- its bytes are known
abbrev pub source_of : MemorySource → Source
source_of memory = record {
  logs = map known_bytes memory.logs;
  taken = memory.taken;
  faults = memory.faults;
}

abbrev pub opened_of : MemorySource → Opened
opened_of memory = record { names = names_of memory.logs; refused = memory.refused }

-- the names opened and the name last refused stay
abbrev pub KeepsOpened : MemorySource → MemorySource → Type 0
KeepsOpened before after = opened_of after ≡ opened_of before

-- the next call, an open or a pull, is one of those that fail
abbrev pub MustFail : MemorySource → Type 0
MustFail memory = Contains memory.fails memory.calls

-- a pull into this room gave this answer, and left the room so
abbrev pub IsMemoryPull : MemorySource → List ℕ → Result Pull Failed → MemorySource → List ℕ → Type 0
IsMemoryPull old room (Ok pull) new filled =
    (¬ MustFail old) × IsScheduledRead old.logs old.cuts room pull new.logs new.cuts filled
    × (new ≡ record old { calls = raised old.calls 1; cuts = new.cuts; logs = new.logs; taken = old.taken + pulled_len (Ok pull) })
IsMemoryPull old room (Err e) new filled =
    MustFail old × (new ≡ record old { calls = raised old.calls 1; faults = raised old.faults 1 }) × (filled ≡ room)

-- no file has this name
abbrev pub NoneNamed : List File → List ℕ → Type 0
NoneNamed files name = All (λ file. file.name ≢ name) files

-- the first file of this name stands at this index
pub record IsFirstNamed (files : List File) (name : List ℕ) (index : ℕ) (file : File) : Type 0 where
  pub none_before : NoneNamed (take index files) name
  pub stands : slice_get files index ≡ Some file
  pub named : file.name ≡ name

abbrev pub IsFirstNamedAt : List File → List ℕ → ℕ → Type 0
IsFirstNamedAt files name index = (file : File) × IsFirstNamed files name index file

-- a source after one more log was opened by this name, with these bytes
abbrev pub after_opening : List ℕ → List ℕ → MemorySource → MemorySource
after_opening name bytes memory = record memory { logs = memory.logs ++ untouched name bytes ∷ [] }

-- a log with the bytes of the file at this index was added, or memory ran out and nothing changed
abbrev pub AddsFile : MemorySource → List ℕ → ℕ → Result Unit OpenFault → MemorySource → Type 0
AddsFile old name index (Ok x) new = new ≡ after_opening name (text_of old.files index) old
AddsFile old name index (Err refusal.Failed) new = ⊥
AddsFile old name index (Err refusal.Memory) new = new ≡ old

-- a source after a call was counted
abbrev pub after_call : MemorySource → MemorySource
after_call memory = record memory { calls = raised memory.calls 1 }

-- an open of this name gave this answer
abbrev pub IsMemoryOpen : MemorySource → List ℕ → Result Unit OpenFault → MemorySource → Type 0
IsMemoryOpen old name (Ok x) new =
    (index : ℕ) × (file : File) × IsFirstNamed old.files name index file × (¬ MustFail old)
    × (new ≡ after_opening name file.bytes (after_call old))
IsMemoryOpen old name (Err refusal.Failed) new =
    (MustFail old ⊎ NoneNamed old.files name)
    × (new ≡ record (after_call old) { refused = Some name; faults = raised old.faults 1 })
IsMemoryOpen old name (Err refusal.Memory) new = new ≡ after_call old
