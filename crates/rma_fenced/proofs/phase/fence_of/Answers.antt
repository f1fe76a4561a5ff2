use Rattle.std.proofs.Common.{sym}
use Rattle.rma_run.specs.Run.{calls_of}
use Rattle.rma_fenced.proofs.phase.fence_of.Goals as goal

pub returns-in-Some : goal.returns-in-Some
returns-in-Some c = c.partner.ensures (calls_of c.args.ranks.now) c.requires.rounds (sym c.in-Some.ensures)
