use Rattle.std.proofs.Common.{arith}
use Rattle.rma_lex.proofs.BlankLemmas.{Marks_after}
use Rattle.rma_lex.proofs.blank.blanks_of_short_line.Goals as goal

pub returns : goal.returns
returns c = Marks_after c.args.line.now _ (omega arith) c.blanks_within_short_line.ensures
