use Rattle.std.proofs.Common.{ℕ, ◌<◌, get_or}
use Rattle.rma_layout.proofs.Words.{Block}
use Rattle.rma_layout.specs.inside.Bytes.{IsBlockIn}
use Rattle.rma_layout.proofs.space.Space.has_all.Given as goal

abbrev pub invariant-each : goal.invariant-each
invariant-each l = (k : ℕ) (d : Block) → k < l.block-index → IsBlockIn l.fn.self (get_or l.blocks k d)
