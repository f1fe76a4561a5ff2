-- What stands in a layout.
use Rattle.std.specs.Prelude.{ℕ, ℤ, ◌*◌, [], ◌∷◌, Some, None, false}
use Rattle.rma_datatype.specs.declared.basic.Basic.{Basic}
use Rattle.rma_datatype.specs.Basic.{basic_size}
use Rattle.rma_bytes.specs.declared.run.Run.{Run}
use Rattle.rma_bytes.specs.declared.layout.Stored.{Stored}
use Rattle.rma_bytes.specs.declared.layout.Stored.TheVariants.{Empty, Elements, Others}
use Rattle.rma_bytes.specs.Layout.{Layout}

-- the bytes of so many entries side by side
abbrev pub run_of : Basic → ℕ → ℤ → Run
run_of element count start = record { start = start; len = count * basic_size element }

-- the layout
abbrev pub layout_in : Stored → Layout
layout_in Empty = record { runs = []; element = None; overlaps = false }
layout_in (Elements element count start) = record { runs = run_of element count start ∷ []; element = Some element; overlaps = false }
layout_in (Others others) = record { runs = others.value.runs; element = others.value.element; overlaps = others.value.overlaps }
