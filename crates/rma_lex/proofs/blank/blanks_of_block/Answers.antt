use Rattle.std.proofs.Common.{arith}
use Rattle.rma_lex.proofs.BlankLemmas.{Marks_blanks}
use Rattle.rma_lex.proofs.blank.blanks_of_block.Goals as goal

pub returns : goal.returns
returns c = Marks_blanks c.args.line.now c.args.from 64 c.requires (omega arith)
