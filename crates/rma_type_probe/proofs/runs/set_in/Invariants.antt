use Rattle.std.specs.List.{All}
use Rattle.rma_bytes.specs.Runs.{IsInBounds}
use Rattle.rma_type_probe.proofs.runs.set_in.Given as goal

abbrev pub invariant-words : goal.invariant-words
invariant-words l = All IsInBounds l.blocks.items
