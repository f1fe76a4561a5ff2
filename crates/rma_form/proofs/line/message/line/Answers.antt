use Rattle.std.proofs.Common.{◌≡◌, ℕ, List, Option, ap}
use Rattle.rma_call.specs.declared.what.SyncCall.TheVariants.{Message}
use Rattle.rma_call.specs.declared.message.MessageCall.{MessageCall}
use Rattle.rma_form.specs.declared.event.Event.TheVariants.{Call}
use Rattle.rma_form.proofs.WrittenLemmas.{written_as}
use Rattle.rma_form.proofs.line.message.line.Goals as goal

-- events of equal calls
same : (request : Option (List ℕ)) (call at : MessageCall) → call ≡ at → Call (Message call) request ≡ Call (Message at) request
same request call at is = ap (λ it. Call (Message it) request) is

pub returns-in-Send : goal.returns-in-Send
returns-in-Send c = written_as _ _ _ (same c.args.request.now _ _ c.in-Send.is) c.message_line.ensures

pub returns-in-Recv : goal.returns-in-Recv
returns-in-Recv c = written_as _ _ _ (same c.args.request.now _ _ c.in-Recv.is) c.message_line-in-Recv.ensures

pub returns-in-Isend : goal.returns-in-Isend
returns-in-Isend c = written_as _ _ _ (same c.args.request.now _ _ c.in-Isend.is) c.isend_line.ensures

pub returns-in-Irecv : goal.returns-in-Irecv
returns-in-Irecv c = written_as _ _ _ (same c.args.request.now _ _ c.in-Irecv.is) c.irecv_line.ensures

pub returns-in-Wait : goal.returns-in-Wait
returns-in-Wait c = written_as _ _ _ (same c.args.request.now _ _ c.in-Wait.is) c.wait_line.ensures
