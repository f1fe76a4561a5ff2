use Rattle.std.proofs.Common.{◌+◌, eqb, get_or}
use Rattle.rma_lex.specs.inside.Mask.{Marks}
use Rattle.rma_lex.proofs.line_feed.feeds_of_tail.Given as goal

abbrev pub invariant-loop-k : goal.invariant-loop-k
invariant-loop-k l = Marks (λ at. eqb (get_or l.text at 0) 10) l.from l.mask l.from (l.from + l.k)
