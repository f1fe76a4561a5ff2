use Rattle.std.proofs.Common.{◌≡◌, ℕ, List, Option, ap}
use Rattle.rma_call.specs.declared.what.SyncCall.TheVariants.{Moving}
use Rattle.rma_call.specs.declared.moving.MovingCall.{MovingCall}
use Rattle.rma_form.specs.declared.event.Event.TheVariants.{Call}
use Rattle.rma_form.proofs.WrittenLemmas.{written_as}
use Rattle.rma_form.proofs.line.moving.line.Goals as goal

-- events of equal calls
same : (request : Option (List ℕ)) (call at : MovingCall) → call ≡ at → Call (Moving call) request ≡ Call (Moving at) request
same request call at is = ap (λ it. Call (Moving it) request) is

pub returns-in-Bcast : goal.returns-in-Bcast
returns-in-Bcast c request = written_as _ _ _ (same request _ _ c.in-Bcast.is) c.rooted_line.ensures

pub returns-in-Scatter : goal.returns-in-Scatter
returns-in-Scatter c request = written_as _ _ _ (same request _ _ c.in-Scatter.is) c.rooted_line-in-Scatter.ensures

pub returns-in-Gather : goal.returns-in-Gather
returns-in-Gather c request = written_as _ _ _ (same request _ _ c.in-Gather.is) c.rooted_line-in-Gather.ensures

pub returns-in-Reduce : goal.returns-in-Reduce
returns-in-Reduce c request = written_as _ _ _ (same request _ _ c.in-Reduce.is) c.rooted_line-in-Reduce.ensures

pub returns-in-Allreduce : goal.returns-in-Allreduce
returns-in-Allreduce c request = written_as _ _ _ (same request _ _ c.in-Allreduce.is) c.moving_line.ensures

pub returns-in-Allgather : goal.returns-in-Allgather
returns-in-Allgather c request = written_as _ _ _ (same request _ _ c.in-Allgather.is) c.moving_line-in-Allgather.ensures

pub returns-in-Alltoall : goal.returns-in-Alltoall
returns-in-Alltoall c request = written_as _ _ _ (same request _ _ c.in-Alltoall.is) c.moving_line-in-Alltoall.ensures
