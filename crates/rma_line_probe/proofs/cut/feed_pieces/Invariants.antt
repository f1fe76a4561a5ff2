use Rattle.std.proofs.Common.{◌≡◌, false}
use Rattle.rma_line_probe.proofs.cut.feed_pieces.Given as goal

-- the text goes on
abbrev pub invariant-pieces : goal.invariant-pieces
invariant-pieces l = l.cutter.closed ≡ false
