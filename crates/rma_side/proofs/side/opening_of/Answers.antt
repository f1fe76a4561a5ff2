use Rattle.rma_run.specs.Run.{calls_of}
use Rattle.rma_side.proofs.side.opening_of.Goals as goal

pub returns-in-Start : goal.returns-in-Start
returns-in-Start c = rw c.in-Start.is (c.partner.ensures (calls_of c.args.ranks.now) c.requires.exposures)
