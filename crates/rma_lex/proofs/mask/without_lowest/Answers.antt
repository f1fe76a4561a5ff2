use Rattle.rma_lex.proofs.MaskLemmas.{DropsBit_lowest}
use Rattle.rma_lex.proofs.mask.without_lowest.Goals as goal

pub returns : goal.returns
returns c = DropsBit_lowest c.args.mask
