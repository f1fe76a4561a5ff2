use Rattle.std.proofs.Common.{◌≡◌}
use Rattle.rma_line_probe.proofs.cut.take_lines.Given as goal

-- the text goes on as before
abbrev pub invariant-lines : goal.invariant-lines
invariant-lines l = l.cutter.closed ≡ l.initial.cutter.closed
