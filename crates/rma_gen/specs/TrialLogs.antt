-- The logs of a trial as a source.
use Rattle.std.specs.Prelude.{◌≡◌, ℕ, ◌+◌, ◌%◌, ◌<◌, ◌≤◌, ◌⊎◌, List, [], ◌++◌, Some, Result, Ok, Err, All, length, map, min, take, drop, sum_by, slice_get, slice_set, slice_index}
use Rattle.rma_io.specs.LogBytes.{LogBytes}
use Rattle.rma_io.specs.Source.{Source}
use Rattle.rma_io.specs.declared.source.Failed.{Failed}
use Rattle.rma_io.specs.declared.source.Pull.{Pull}
use Rattle.rma_io.specs.declared.source.Pull.TheVariants.{Bytes, Done}
use Rattle.rma_gen.specs.Trial.{trial_logs}
use Rattle.rma_gen.specs.declared.trial.Trial.{Trial}

-- a log: the bytes taken from it, and those left
pub record Tape : Type 0 where
  pub taken : List ℕ
  pub left : List ℕ

-- the log of each rank, and the rank whose turn it is
pub record TrialSource : Type 0 where
  pub tapes : List Tape
  pub turn : ℕ

-- the whole bytes of a log
abbrev pub text_of : Tape → List ℕ
text_of tape = tape.taken ++ tape.left

abbrev pub texts_of : TrialSource → List (List ℕ)
texts_of source = map text_of source.tapes

-- a log of which nothing was taken
abbrev pub untouched : List ℕ → Tape
untouched text = record { taken = []; left = text }

-- the logs of a trial, of which nothing was taken
abbrev pub unread : Trial → TrialSource
unread trial = record { tapes = map untouched (trial_logs trial); turn = 0 }

-- all the bytes of a log are known
abbrev pub known_bytes : Tape → LogBytes
known_bytes tape = record { taken = Some tape.taken; left = Some tape.left }

-- its bytes are known, and it has no faults
abbrev pub source_of : TrialSource → Source
source_of source = record { logs = map known_bytes source.tapes; taken = sum_by (λ tape. length tape.taken) source.tapes; faults = 0 }

-- the whole bytes of each log stay
abbrev pub KeepsTexts : TrialSource → TrialSource → Type 0
KeepsTexts before after = texts_of after ≡ texts_of before

-- how many bytes each log has left, by rank
abbrev pub lefts : List Tape → List ℕ
lefts tapes = map (λ tape. length tape.left) tapes

-- nothing is left of the logs of these ranks, the last one not counted
abbrev pub NoneLeft : List ℕ → ℕ → ℕ → Type 0
NoneLeft left from to = (rank : ℕ) → from ≤ rank → rank < to → slice_index left rank ≡ 0

-- this rank is served next: the first one with bytes left, from the one on whose turn it is, the lowest rank behind the highest
abbrev pub IsNext : List ℕ → ℕ → ℕ → Type 0
IsNext left turn rank =
    (0 < slice_index left rank)
    × (((turn ≤ rank) × NoneLeft left turn rank) ⊎ ((rank < turn) × NoneLeft left turn (length left) × NoneLeft left 0 rank))

-- a log after its next n bytes were taken
abbrev pub after_taking : ℕ → Tape → Tape
after_taking n tape = record { taken = tape.taken ++ take n tape.left; left = drop n tape.left }

-- a rank was served with as many bytes as it has left, as there is room for, and at most 4096; the turn goes to the one behind it
pub record IsServed (old : TrialSource) (room : List ℕ) (rank len : ℕ) (new : TrialSource) (filled : List ℕ) : Type 0 where
  pub tape : Tape
  pub ranked : slice_get old.tapes rank ≡ Some tape
  pub capped : len ≡ min (min (length room) 4096) (length tape.left)
  pub moved : new ≡ record { tapes = slice_set old.tapes rank (after_taking len tape); turn = (rank + 1) % length old.tapes }
  pub fills : filled ≡ take len tape.left ++ drop len room

-- a pull into this room gave this answer, and left the room so
abbrev pub IsTrialPull : TrialSource → List ℕ → Result Pull Failed → TrialSource → List ℕ → Type 0
IsTrialPull old room (Ok (Bytes rank len)) new filled = IsNext (lefts old.tapes) old.turn rank × IsServed old room rank len new filled
IsTrialPull old room (Ok Done) new filled = All (λ tape. tape.left ≡ []) old.tapes × (new ≡ old) × (filled ≡ room)
IsTrialPull old room (Err e) new filled = ⊥
