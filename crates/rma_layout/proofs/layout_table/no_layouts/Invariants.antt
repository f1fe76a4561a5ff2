use Rattle.std.proofs.Common.{List}
use Rattle.rma_type.specs.declared.origin.Origin.{Origin}
use Rattle.rma_layout.specs.inside.Known.{AreKnown}
use Rattle.rma_layout.proofs.layout_table.no_layouts.Given as goal

abbrev pub invariant-loop : goal.invariant-loop
invariant-loop l = (origins : List Origin) → AreKnown origins l.known.items
