-- What it means that a text was written to a sink through a buffer.
use Rattle.std.specs.Prelude.{◌≡◌, ℕ, ◌≤◌, List, ◌++◌, Result, Ok, Err, OnErr}
use Rattle.rma_io.specs.Count.{Rose}
use Rattle.rma_io.specs.Known.{StillKnown}
use Rattle.rma_io.specs.Sink.{Output, AppendsPrefixOf}
use Rattle.rma_report.specs.declared.report.WriteFault.{WriteFault}

-- of what was held and this text after it, the first bytes were appended and the others are left; or, where the sink
-- failed, a prefix of it was appended
abbrev pub Buffers : List ℕ → List ℕ → Result Unit WriteFault → List ℕ → List ℕ → List ℕ → Type 0
Buffers held text (Ok x) left before after = (passed : List ℕ) × (held ++ text ≡ passed ++ left) × (after ≡ before ++ passed)
Buffers held text (Err e) left before after = AppendsPrefixOf (held ++ text) before after

-- a call that writes this text after what was held gave this answer
pub record IsBuffered (old : Output) (held text : List ℕ) (answer : Result Unit WriteFault) (left : List ℕ) (new : Output) : Type 0 where
  pub written : StillKnown (Buffers held text answer left) old.written new.written
  pub never_falls : old.faults ≤ new.faults
  pub failed : OnErr answer (Rose old.faults new.faults)
