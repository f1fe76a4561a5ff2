use Rattle.std.proofs.Common.{◌≡◌, take, sum_by}
use Rattle.rma_bytes.specs.declared.run.Run.{Run}
use Rattle.rma_layout.proofs.overlap.bytes_of.Given as goal

abbrev pub invariant-each : goal.invariant-each
invariant-each l = l.total ≡ sum_by (λ (r : Run). r.len) (take l.i l.runs)
