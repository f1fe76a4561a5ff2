-- A sink in memory, which can be told to fail.
use Rattle.std.specs.Prelude.{◌≡◌, ◌≢◌, ℕ, List, All, Some, Result, Ok, Err, take, slice_get}
use Rattle.rma_io.specs.Count.{raised}
use Rattle.rma_io.specs.Buffer.{Buffer, empty, after_passing, known_by}
use Rattle.rma_io.specs.Sink.{Output}
use Rattle.rma_io.specs.declared.source.Failed.{Failed}

-- the buffer that it writes; which puts fail, and after how many bytes; how many puts there were; and the count of faults
pub record MemoryOutput : Type 0 where
  pub buffer : Buffer
  pub fails : List (ℕ × ℕ)
  pub puts : ℕ
  pub faults : ℕ

-- a sink of this size that nothing was written to
abbrev pub unwritten : ℕ → List (ℕ × ℕ) → MemoryOutput
unwritten size fails = record { buffer = empty size; fails = fails; puts = 0; faults = 0 }

-- it knows what its buffer knows
abbrev pub output_of : MemoryOutput → Output
output_of memory = record { written = known_by memory.buffer; faults = memory.faults }

-- no pair speaks of this put
abbrev pub GoesWell : List (ℕ × ℕ) → ℕ → Type 0
GoesWell fails number = All (λ fail. fail.0 ≢ number) fails

-- the first pair that speaks of this put makes it fail after this number of bytes
pub record FailsAfter (fails : List (ℕ × ℕ)) (number bytes : ℕ) : Type 0 where
  pub index : ℕ
  pub well_before : GoesWell (take index fails) number
  pub stands : slice_get fails index ≡ Some (number, bytes)

-- a put of this piece gave this answer
abbrev pub IsMemoryPut : MemoryOutput → List ℕ → Result Unit Failed → MemoryOutput → Type 0
IsMemoryPut old piece (Ok x) new =
    GoesWell old.fails old.puts
    × (new ≡ record old { buffer = after_passing piece old.buffer; puts = raised old.puts 1 })
IsMemoryPut old piece (Err e) new =
    (bytes : ℕ) × FailsAfter old.fails old.puts bytes
    × (new ≡ record old { buffer = after_passing (take bytes piece) old.buffer; puts = raised old.puts 1; faults = raised old.faults 1 })
