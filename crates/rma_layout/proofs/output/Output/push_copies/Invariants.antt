use Rattle.std.proofs.Common.{◌≡◌, pos, ◌+ℤ◌, ◌*ℤ◌}
use Rattle.rma_layout.proofs.Words.{copies, span, Appends}
use Rattle.rma_layout.proofs.output.Output.push_copies.Given as goal

abbrev pub invariant-copies : goal.invariant-copies
invariant-copies l = record {
  written : Appends l.fn.self l.self (copies l._i (pos 0) l.stride (span l.fn.block.start l.len));
  start : l.start ≡ l.fn.block.start +ℤ pos l._i *ℤ l.stride;
}
