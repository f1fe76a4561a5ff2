use Rattle.std.proofs.Common.{◌≡◌, false}
use Rattle.rma_line_probe.proofs.read.feed_to_stops.Given as goal

-- the log goes on
abbrev pub invariant-stops : goal.invariant-stops
invariant-stops l = l.book.text.closed ≡ false
