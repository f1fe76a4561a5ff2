use Rattle.std.proofs.Common.{◌≡◌, ◌-◌, length}
use Rattle.rma_lex.specs.inside.Found.{Knows}
use Rattle.rma_lex.proofs.line_feed.LineFeeds.search.Given as goal

abbrev pub invariant-loop-self : goal.invariant-loop-self
invariant-loop-self l = record { knows : Knows l.self l.text; start : l.self.start ≡ l.initial.self.start }

abbrev pub decreases-loop-self : goal.decreases-loop-self
decreases-loop-self l = length l.text - l.self.seen
