use Rattle.std.proofs.Common.{◌≡◌, ℕ, List, Option, ap}
use Rattle.rma_call.specs.declared.what.SyncCall.TheVariants.{Frame}
use Rattle.rma_call.specs.declared.frame.FrameCall.{FrameCall}
use Rattle.rma_form.specs.declared.event.Event.TheVariants.{Call}
use Rattle.rma_form.proofs.WrittenLemmas.{written_as}
use Rattle.rma_form.proofs.line.frame.line.Goals as goal

-- events of equal calls
same : (request : Option (List ℕ)) (call at : FrameCall) → call ≡ at → Call (Frame call) request ≡ Call (Frame at) request
same request call at is = ap (λ it. Call (Frame it) request) is

pub returns-in-Comm : goal.returns-in-Comm
returns-in-Comm c request = written_as _ _ _ (same request _ _ c.in-Comm.is) c.comm_line.ensures

pub returns-in-Barrier : goal.returns-in-Barrier
returns-in-Barrier c request = written_as _ _ _ (same request _ _ c.in-Barrier.is) c.named_line.ensures
