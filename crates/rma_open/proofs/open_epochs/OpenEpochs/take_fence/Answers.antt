use Rattle.std.proofs.Common.{refl, sym, ◌∙◌}
use Rattle.rma_call.specs.declared.epoch.EpochCall.TheVariants.{Fence}
use Rattle.rma_call.specs.declared.what.What.TheVariants.{Sync}
use Rattle.rma_call.specs.declared.what.SyncCall.TheVariants.{Epoch}
use Rattle.rma_open.specs.declared.open_epochs.OpenEpochs.{OpenEpochs}
use Rattle.rma_open.proofs.EventLemmas.{next_is}
use Rattle.rma_open.proofs.TestLemmas.{is_nothing}
use Rattle.rma_open.proofs.open_epochs.OpenEpochs.take_fence.Goals as goal

pub returns-clause-reason : goal.returns-clause-reason
returns-clause-reason c = λ window. sym (is_nothing c.fence_reason-reason.result (sym c.is_some.ensures ∙ c.if-is_some.false)) ∙ c.fence_reason-reason.ensures window

pub returns-clause-taken : goal.returns-clause-taken
returns-clause-taken c = λ window past is.
    let own : OpenEpochs = c.args.self.now in
    next_is c.args.number (Sync (Epoch (Fence window c.args.assertions))) past own (record own { phase = c.opened_phase-self.result }) is
    (record { start = refl; post = refl; lock_all = refl; lock_on = λ t. refl; phase = c.opened_phase-self.ensures; freed = refl })
