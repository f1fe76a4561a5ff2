use Rattle.std.proofs.Common.{◌≡◌, pos, ◌+ℤ◌, ◌*ℤ◌}
use Rattle.rma_layout.proofs.Words.{copies, Appends}
use Rattle.rma_layout.proofs.BytesLemmas.{range}
use Rattle.rma_layout.proofs.output.Output.copy_rows.Given as goal

abbrev pub invariant-copies : goal.invariant-copies
invariant-copies l = record {
  written : Appends l.fn.self l.self (copies l._i l.fn.at l.fn.stride (range l.from l.to l.fn.self.blocks.items));
  next : l.by ≡ l.fn.at +ℤ pos l._i *ℤ l.fn.stride;
}
