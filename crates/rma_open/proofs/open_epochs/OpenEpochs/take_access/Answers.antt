use Rattle.std.proofs.Common.{refl}
use Rattle.rma_call.specs.Rma.{access_of}
use Rattle.rma_call.specs.declared.what.What.TheVariants.{Rma}
use Rattle.rma_open.specs.declared.open_epochs.OpenEpochs.{OpenEpochs}
use Rattle.rma_open.proofs.EventLemmas.{next_is}
use Rattle.rma_open.proofs.open_epochs.OpenEpochs.take_access.Goals as goal

pub returns-clause-taken : goal.returns-clause-taken
returns-clause-taken c = λ number past is.
    let own : OpenEpochs = c.args.self.now in
    next_is number (Rma (access_of c.args.access)) past own (record own { phase = c.used_phase-self.result }) is
    (record { start = refl; post = refl; lock_all = refl; lock_on = λ t. refl; phase = c.used_phase-self.ensures; freed = refl })
