use Rattle.std.proofs.Common.{arith}
use Rattle.rma_lex.proofs.BlankLemmas.{Marks_two}
use Rattle.rma_lex.proofs.blank.blanks_of_few.Goals as goal

pub returns-then-line-lt16 : goal.returns-then-line-lt16
returns-then-line-lt16 c = Marks_two c.args.line.now 8 _ _ (omega arith) (omega arith) c.blanks_of_8.ensures c.blanks_of_8-then-line-lt16.ensures

pub returns-else-line-lt16 : goal.returns-else-line-lt16
returns-else-line-lt16 c = Marks_two c.args.line.now 16 _ _ (omega arith) (omega arith) c.blanks_of_16.ensures c.blanks_of_16-else-line-lt16.ensures
