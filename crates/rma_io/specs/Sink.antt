-- What the calls of a sink of bytes mean.
use Rattle.std.specs.Prelude.{◌≡◌, ℕ, ◌≤◌, List, ◌++◌, Option, Result, Ok, Err, OnErr}
use Rattle.rma_io.specs.Count.{Rose}
use Rattle.rma_io.specs.Known.{StillKnown}
use Rattle.rma_io.specs.declared.source.Failed.{Failed}

-- a sink: the bytes written, where they are known, and the count of its faults
pub record Output : Type 0 where
  pub written : Option (List ℕ)
  pub faults : ℕ

-- a prefix of these bytes was appended
abbrev pub AppendsPrefixOf : List ℕ → List ℕ → List ℕ → Type 0
AppendsPrefixOf bytes before after = (prefix : List ℕ) × (rest : List ℕ) × (bytes ≡ prefix ++ rest) × (after ≡ before ++ prefix)

-- what a put writes: the whole piece, or, where it failed, a prefix of it
abbrev pub Writes : List ℕ → Result Unit Failed → List ℕ → List ℕ → Type 0
Writes piece (Ok x) before after = after ≡ before ++ piece
Writes piece (Err e) before after = AppendsPrefixOf piece before after

-- a put of this piece gave this answer
pub record IsPut (old : Output) (piece : List ℕ) (answer : Result Unit Failed) (new : Output) : Type 0 where
  pub written : StillKnown (Writes piece answer) old.written new.written
  pub never_falls : old.faults ≤ new.faults
  pub failed : OnErr answer (Rose old.faults new.faults)
