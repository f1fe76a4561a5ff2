-- An output of the process.
use Rattle.std.specs.Prelude.{◌≡◌, ℕ, List, ◌++◌, Option, None, Result, Ok, Err}
use Rattle.std.specs.Io.KnownBytes.{Appends}
use Rattle.rma_io.specs.Sink.{Output}
use Rattle.rma_io.specs.declared.source.Failed.{Failed}

-- the bytes that the output holds, where its type says them; how many bytes it took whole pieces of; and the count of
-- faults
pub record Printed : Type 0 where
  pub written : Option (List ℕ)
  pub taken : ℕ
  pub faults : ℕ

-- an output that holds these bytes and took nothing yet
abbrev pub unprinted : Option (List ℕ) → Printed
unprinted written = record { written = written; taken = 0; faults = 0 }

-- the output as a sink, of which no bytes are known
abbrev pub output_of : Printed → Output
output_of printed = record { written = None; faults = printed.faults }

-- what a put does to the bytes of the output: it appends the whole piece, or, where it failed, a prefix of it
abbrev pub AppendsPiece : List ℕ → Result Unit Failed → Option (List ℕ) → Option (List ℕ) → Type 0
AppendsPiece piece (Ok x) before after = Appends before after piece
AppendsPiece piece (Err fault) before after =
    (prefix : List ℕ) × (rest : List ℕ) × (piece ≡ prefix ++ rest) × Appends before after prefix
