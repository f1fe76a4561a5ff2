use Rattle.rma_layout.specs.inside.Frames.{IsExpanding, bytes_at}
use Rattle.rma_layout.proofs.expand.expand.Given as goal

abbrev pub invariant-turns : goal.invariant-turns
invariant-turns l = IsExpanding l.types.origins l.fn.output l.output (bytes_at l.types.origins l.fn.id l.fn.by) l.top l.outer.items
