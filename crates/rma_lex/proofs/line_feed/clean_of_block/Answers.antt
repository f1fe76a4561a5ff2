use Rattle.rma_lex.proofs.CleanLemmas.{Marks_clean}
use Rattle.rma_lex.proofs.line_feed.clean_of_block.Goals as goal

pub returns : goal.returns
returns c = Marks_clean c.args.text.now c.args.from c.requires
