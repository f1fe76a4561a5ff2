use Rattle.std.proofs.Common.{◌≡◌, length, take}
use Rattle.rma_link.specs.declared.links.Links.{Links}
use Rattle.rma_clock.specs.inside.Before.{IsBeforeMember, IsRaised}
use Rattle.rma_clock.specs.inside.Dense.{IsDense}
use Rattle.rma_clock.proofs.dense.DenseClocks.raise_to_all.Given as goal

abbrev pub invariant-loop-member : goal.invariant-loop-member
invariant-loop-member l = record {
  size : length l.row ≡ length l.fn.row;
  raised : (links : Links) → IsDense (length l.fn.row) links l.self.rows.items → IsRaised (IsBeforeMember links (take l.member-index l.calls)) l.fn.row l.row;
}
