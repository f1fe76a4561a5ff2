use Rattle.std.proofs.Common.{arith}
use Rattle.rma_lex.proofs.LastLemmas.{IsHighestBit_leading}
use Rattle.rma_lex.proofs.mask.highest.Goals as goal

pub returns-else-mask-eq0-clause-highest : goal.returns-else-mask-eq0-clause-highest
returns-else-mask-eq0-clause-highest c = (IsHighestBit_leading c.args.mask (omega (arith, c.if-mask-eq0.false)) c.ranges.mask.fits).1
