use Rattle.std.proofs.Common.{◌≡◌, false}
use Rattle.rma_line_probe.proofs.read.feed_pieces.Given as goal

-- the log goes on
abbrev pub invariant-pieces : goal.invariant-pieces
invariant-pieces l = l.book.text.closed ≡ false
