use Rattle.rma_open.proofs.open_epochs.OpenEpochs.member_reason.Goals as goal

pub returns-in-Fence : goal.returns-in-Fence
returns-in-Fence c = rw c.in-Fence.is (c.fence_reason.ensures c.in-Fence.window)
