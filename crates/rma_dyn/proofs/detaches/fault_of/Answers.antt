use Rattle.rma_dyn.proofs.LiveLemmas.{no_attach}
use Rattle.rma_dyn.proofs.detaches.fault_of.Goals as goal

pub returns-in-Some : goal.returns-in-Some
returns-in-Some c = no_attach c.args.list.now c.args.own.now _ c.in-Some.is
