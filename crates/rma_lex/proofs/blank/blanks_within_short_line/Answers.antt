use Rattle.std.proofs.Common.{arith}
use Rattle.rma_lex.proofs.BlankLemmas.{Marks_two}
use Rattle.rma_lex.proofs.blank.blanks_within_short_line.Goals as goal

pub returns : goal.returns
returns c = Marks_two c.args.line.now 32 _ _ (omega arith) (omega arith) c.blanks_of_32.ensures c.blanks_of_32-2.ensures
