use Rattle.std.proofs.Common.{arith}
use Rattle.rma_lex.proofs.BlankLemmas.{Marks_blanks_moved}
use Rattle.rma_lex.proofs.blank.blanks_of_8.Goals as goal

pub returns : goal.returns
returns c = Marks_blanks_moved c.args.line.now c.args.from 8 c.requires.within (omega arith)
