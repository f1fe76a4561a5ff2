-- What a call touches in a buffer (MPI 4.0, "Datatypes").
use Rattle.std.specs.Prelude.{ℤ, List, map, Bool, Option}
use Rattle.rma_datatype.specs.declared.basic.Basic.{Basic}
use Rattle.rma_bytes.specs.declared.run.Run.{Run}
use Rattle.rma_bytes.specs.Runs.{moved}

-- the bytes of the touched entries, the basic datatype that each of them has, where there is one, and whether two of them
-- share a byte
pub record Layout : Type 0 where
  pub runs : List Run
  pub element : Option Basic
  pub overlaps : Bool

-- the same, with each byte moved by a distance
abbrev pub layout_by : ℤ → Layout → Layout
layout_by by it = record it { runs = map (moved by) it.runs }
