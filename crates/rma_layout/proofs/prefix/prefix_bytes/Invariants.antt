use Rattle.std.proofs.Common.{◌≡◌, ◌+◌, take, drop, sum_by}
use Rattle.rma_layout.proofs.Words.{basic_size}
use Rattle.rma_type.specs.Signature.{spread}
use Rattle.rma_layout.proofs.prefix.prefix_bytes.Given as goal

abbrev pub invariant-each : goal.invariant-each
invariant-each l = l.total + sum_by basic_size (take l.left (spread (drop l.run-index l.runs))) ≡ sum_by basic_size (take l.elements (spread l.runs))
