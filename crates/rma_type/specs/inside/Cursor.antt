-- A cursor in copies of runs, and what follows from it on.
use Rattle.std.specs.Prelude.{ℕ, ◌<◌, ◌++◌, List, [], drop, replicate, Option, Some, None}
use Rattle.rma_datatype.specs.declared.basic.Basic.{Basic}
use Rattle.rma_typemap.specs.Signature.{copies}
use Rattle.rma_type.specs.declared.sig_run.SigRun.{SigRun}
use Rattle.rma_type.specs.declared.prefix.Cursor.{Cursor}
use Rattle.rma_type.specs.Signature.{spread}

-- the runs from one on, and `more` further copies of all of them
abbrev pub rest_from : List SigRun → ℕ → ℕ → List Basic
rest_from runs next more = spread (drop next runs) ++ copies more (spread runs)

-- what follows from a cursor on: what is left of its run, the runs after it, and the further copies
abbrev pub rest_at : List SigRun → Option Cursor → List Basic
rest_at runs None = []
rest_at runs (Some cursor) = replicate cursor.left cursor.basic ++ rest_from runs cursor.next cursor.more

-- something is left of the run of a cursor
abbrev pub IsCursor : Option Cursor → Type 0
IsCursor None = Unit {0}
IsCursor (Some cursor) = 0 < cursor.left
