-- What it means that a text was written to a sink.
use Rattle.std.specs.Prelude.{◌≡◌, ℕ, ◌≤◌, List, ◌++◌, Result, Ok, Err, OnErr}
use Rattle.rma_io.specs.Count.{Rose}
use Rattle.rma_io.specs.Known.{StillKnown}
use Rattle.rma_io.specs.Sink.{Output, AppendsPrefixOf}
use Rattle.rma_report.specs.declared.report.WriteFault.{WriteFault}

-- the whole text was appended, or, where the sink failed, a prefix of it
abbrev pub AppendsText : List ℕ → Result Unit WriteFault → List ℕ → List ℕ → Type 0
AppendsText text (Ok x) before after = after ≡ before ++ text
AppendsText text (Err e) before after = AppendsPrefixOf text before after

-- a call that writes this text gave this answer
pub record IsWritten (old : Output) (text : List ℕ) (answer : Result Unit WriteFault) (new : Output) : Type 0 where
  pub written : StillKnown (AppendsText text answer) old.written new.written
  pub never_falls : old.faults ≤ new.faults
  pub failed : OnErr answer (Rose old.faults new.faults)
