use Rattle.std.proofs.Common.{◌≡◌, ℕ, List, Option, ap}
use Rattle.rma_call.specs.declared.what.SyncCall.TheVariants.{Window}
use Rattle.rma_call.specs.declared.window.WindowCall.{WindowCall}
use Rattle.rma_form.specs.declared.event.Event.TheVariants.{Call}
use Rattle.rma_form.proofs.WrittenLemmas.{written_as, written_creation}
use Rattle.rma_form.proofs.line.window.line.Goals as goal

-- events of equal calls
same : (request : Option (List ℕ)) (call at : WindowCall) → call ≡ at → Call (Window call) request ≡ Call (Window at) request
same request call at is = ap (λ it. Call (Window it) request) is

pub returns-in-Free : goal.returns-in-Free
returns-in-Free c request = written_as _ _ _ (same request _ _ c.in-Free.is) c.named_line.ensures

pub returns-in-Attach : goal.returns-in-Attach
returns-in-Attach c request = written_as _ _ _ (same request _ _ c.in-Attach.is) c.attach_line.ensures

pub returns-in-Detach : goal.returns-in-Detach
returns-in-Detach c request = written_as _ _ _ (same request _ _ c.in-Detach.is) c.detach_line.ensures

pub returns-in-Create : goal.returns-in-Create
returns-in-Create c request =
    let it = c.in-Create in
    rw it.is (written_creation _ it.window it.comm it.base it.size it.unit it.model it.ops it.dynamic request c.creation_line.ensures)
