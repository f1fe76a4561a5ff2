use Rattle.rma_lex.specs.inside.Blank.{blank_at}
use Rattle.rma_lex.specs.inside.Mask.{Marks}
use Rattle.rma_lex.proofs.blank.blanks_one_by_one.Given as goal

abbrev pub invariant-loop-k : goal.invariant-loop-k
invariant-loop-k l = Marks (blank_at l.line) 0 l.mask 0 l.k
