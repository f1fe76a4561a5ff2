use Rattle.std.proofs.Common.{refl}
use Rattle.rma_call.specs.declared.what.What.TheVariants.{Sync}
use Rattle.rma_call.specs.declared.what.SyncCall.TheVariants.{Window}
use Rattle.rma_open.specs.declared.open_epochs.OpenEpochs.{OpenEpochs}
use Rattle.rma_open.proofs.EventLemmas.{next_is}
use Rattle.rma_open.proofs.open_epochs.OpenEpochs.take_window.Goals as goal

pub returns-clause-taken : goal.returns-clause-taken
returns-clause-taken c = λ number past is.
    let own : OpenEpochs = c.args.self.now in
    next_is number (Sync (Window c.args.call.now)) past own (record own { freed = c.freed_after-self.result }) is
    (record { start = refl; post = refl; lock_all = refl; lock_on = λ t. refl; phase = refl; freed = c.freed_after-self.ensures })
