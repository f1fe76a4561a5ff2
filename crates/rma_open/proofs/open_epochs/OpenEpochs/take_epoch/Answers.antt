use Rattle.rma_open.proofs.open_epochs.OpenEpochs.take_epoch.Goals as goal

pub returns-in-Fence-clause-reason : goal.returns-in-Fence-clause-reason
returns-in-Fence-clause-reason c = rw c.in-Fence.is (c.take_fence.ensures.reason c.in-Fence.window)
