use Rattle.std.proofs.Common.{◌↔◌, drop}
use Rattle.rma_bytes.specs.inside.Walks.{AscendFrom, Ascend}
use Rattle.rma_bytes.proofs.merge.ascend.Given as goal

abbrev pub invariant-each : goal.invariant-each
invariant-each l = Ascend l.blocks ↔ AscendFrom l.start (drop l.block-index l.blocks)
