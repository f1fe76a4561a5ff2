-- A sink in memory that never fails.
use Rattle.std.specs.Prelude.{◌≡◌, ℕ, List, Result, Ok}
use Rattle.rma_io.specs.Buffer.{Buffer, after_passing, known_by}
use Rattle.rma_io.specs.Sink.{Output}
use Rattle.rma_io.specs.declared.source.Failed.{Failed}

-- it knows what its buffer knows, and has no faults
abbrev pub output_of : Buffer → Output
output_of buffer = record { written = known_by buffer; faults = 0 }

-- a put of this piece gave this answer
abbrev pub IsSurePut : Buffer → List ℕ → Result Unit Failed → Buffer → Type 0
IsSurePut old piece answer new = (answer ≡ Ok tt) × (new ≡ after_passing piece old)
