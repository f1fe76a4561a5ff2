use Rattle.rma_form.specs.inside.Places.{nowhere}
use Rattle.rma_form.specs.declared.form.LineForm.TheVariants as form
use Rattle.rma_parse.proofs.FieldLemmas.{read_as, read_rest}
use Rattle.rma_parse.proofs.form.read_fields.Goals as goal

pub returns-in-Header : goal.returns-in-Header
returns-in-Header c = read_as c.args.version _ form.Header c.args.fields.now nowhere _ c.in-Header.is c.requires c.header.ensures

pub returns-in-End : goal.returns-in-End
returns-in-End c = rw c.in-End.is

pub returns-in-Comm : goal.returns-in-Comm
returns-in-Comm c = read_as c.args.version _ form.Comm c.args.fields.now nowhere _ c.in-Comm.is c.requires c.comm.ensures

pub returns-in-Barrier : goal.returns-in-Barrier
returns-in-Barrier c = read_as c.args.version _ form.Barrier c.args.fields.now nowhere _ c.in-Barrier.is c.requires c.barrier.ensures

pub returns-in-Send : goal.returns-in-Send
returns-in-Send c = read_as c.args.version _ form.Send c.args.fields.now nowhere _ c.in-Send.is c.requires c.send.ensures

pub returns-in-Recv : goal.returns-in-Recv
returns-in-Recv c = read_as c.args.version _ form.Recv c.args.fields.now nowhere _ c.in-Recv.is c.requires c.recv.ensures

pub returns-in-Isend : goal.returns-in-Isend
returns-in-Isend c = read_as c.args.version _ form.Isend c.args.fields.now nowhere _ c.in-Isend.is c.requires c.isend.ensures

pub returns-in-Irecv : goal.returns-in-Irecv
returns-in-Irecv c = read_as c.args.version _ form.Irecv c.args.fields.now nowhere _ c.in-Irecv.is c.requires c.irecv.ensures

pub returns-in-Wait : goal.returns-in-Wait
returns-in-Wait c = read_rest c.args.version _ form.Wait c.args.fields.now nowhere _ _ c.in-Wait.is c.requires c.behind.ensures.texts c.wait.ensures

pub returns-in-Create : goal.returns-in-Create
returns-in-Create c = read_as c.args.version _ form.Create c.args.fields.now nowhere _ c.in-Create.is c.requires c.create.ensures

pub returns-in-Free : goal.returns-in-Free
returns-in-Free c = read_as c.args.version _ form.Free c.args.fields.now nowhere _ c.in-Free.is c.requires c.free.ensures

pub returns-in-Fence : goal.returns-in-Fence
returns-in-Fence c = read_rest c.args.version _ form.Fence c.args.fields.now nowhere _ _ c.in-Fence.is c.requires c.behind-in-Fence.ensures.texts c.fence.ensures

pub returns-in-Post : goal.returns-in-Post
returns-in-Post c = read_rest c.args.version _ form.Post c.args.fields.now nowhere _ _ c.in-Post.is c.requires c.behind-in-Post.ensures.texts c.post.ensures

pub returns-in-Start : goal.returns-in-Start
returns-in-Start c = read_rest c.args.version _ form.Start c.args.fields.now nowhere _ _ c.in-Start.is c.requires c.behind-in-Start.ensures.texts c.start.ensures

pub returns-in-Complete : goal.returns-in-Complete
returns-in-Complete c = read_as c.args.version _ form.Complete c.args.fields.now nowhere _ c.in-Complete.is c.requires c.complete.ensures

pub returns-in-Expwait : goal.returns-in-Expwait
returns-in-Expwait c = read_as c.args.version _ form.Expwait c.args.fields.now nowhere _ c.in-Expwait.is c.requires c.expwait.ensures

pub returns-in-Lock : goal.returns-in-Lock
returns-in-Lock c = read_rest c.args.version _ form.Lock c.args.fields.now nowhere _ _ c.in-Lock.is c.requires c.behind-in-Lock.ensures.texts c.lock.ensures

pub returns-in-Unlock : goal.returns-in-Unlock
returns-in-Unlock c = read_as c.args.version _ form.Unlock c.args.fields.now nowhere _ c.in-Unlock.is c.requires c.unlock.ensures

pub returns-in-LockAll : goal.returns-in-LockAll
returns-in-LockAll c = read_rest c.args.version _ form.LockAll c.args.fields.now nowhere _ _ c.in-LockAll.is c.requires c.behind-in-LockAll.ensures.texts c.lock_all.ensures

pub returns-in-UnlockAll : goal.returns-in-UnlockAll
returns-in-UnlockAll c = read_as c.args.version _ form.UnlockAll c.args.fields.now nowhere _ c.in-UnlockAll.is c.requires c.unlock_all.ensures

pub returns-in-Flush : goal.returns-in-Flush
returns-in-Flush c = read_as c.args.version _ form.Flush c.args.fields.now nowhere _ c.in-Flush.is c.requires c.flush.ensures

pub returns-in-FlushAll : goal.returns-in-FlushAll
returns-in-FlushAll c = read_as c.args.version _ form.FlushAll c.args.fields.now nowhere _ c.in-FlushAll.is c.requires c.flush_all.ensures

pub returns-in-FlushLocal : goal.returns-in-FlushLocal
returns-in-FlushLocal c = read_as c.args.version _ form.FlushLocal c.args.fields.now nowhere _ c.in-FlushLocal.is c.requires c.flush_local.ensures

pub returns-in-FlushLocalAll : goal.returns-in-FlushLocalAll
returns-in-FlushLocalAll c = read_as c.args.version _ form.FlushLocalAll c.args.fields.now nowhere _ c.in-FlushLocalAll.is c.requires c.flush_local_all.ensures

pub returns-in-Sync : goal.returns-in-Sync
returns-in-Sync c = read_as c.args.version _ form.Sync c.args.fields.now nowhere _ c.in-Sync.is c.requires c.sync.ensures

pub returns-in-Dynamic : goal.returns-in-Dynamic
returns-in-Dynamic c = read_as c.args.version _ form.Dynamic c.args.fields.now nowhere _ c.in-Dynamic.is c.requires c.dynamic.ensures

pub returns-in-Attach : goal.returns-in-Attach
returns-in-Attach c = read_as c.args.version _ form.Attach c.args.fields.now nowhere _ c.in-Attach.is c.requires c.attach.ensures

pub returns-in-Detach : goal.returns-in-Detach
returns-in-Detach c = read_as c.args.version _ form.Detach c.args.fields.now nowhere _ c.in-Detach.is c.requires c.detach.ensures

pub returns-in-Bcast : goal.returns-in-Bcast
returns-in-Bcast c = read_as c.args.version _ form.Bcast c.args.fields.now nowhere _ c.in-Bcast.is c.requires c.bcast.ensures

pub returns-in-Scatter : goal.returns-in-Scatter
returns-in-Scatter c = read_as c.args.version _ form.Scatter c.args.fields.now nowhere _ c.in-Scatter.is c.requires c.scatter.ensures

pub returns-in-Gather : goal.returns-in-Gather
returns-in-Gather c = read_as c.args.version _ form.Gather c.args.fields.now nowhere _ c.in-Gather.is c.requires c.gather.ensures

pub returns-in-Reduce : goal.returns-in-Reduce
returns-in-Reduce c = read_as c.args.version _ form.Reduce c.args.fields.now nowhere _ c.in-Reduce.is c.requires c.reduce.ensures

pub returns-in-Allreduce : goal.returns-in-Allreduce
returns-in-Allreduce c = read_as c.args.version _ form.Allreduce c.args.fields.now nowhere _ c.in-Allreduce.is c.requires c.allreduce.ensures

pub returns-in-Allgather : goal.returns-in-Allgather
returns-in-Allgather c = read_as c.args.version _ form.Allgather c.args.fields.now nowhere _ c.in-Allgather.is c.requires c.allgather.ensures

pub returns-in-Alltoall : goal.returns-in-Alltoall
returns-in-Alltoall c = read_as c.args.version _ form.Alltoall c.args.fields.now nowhere _ c.in-Alltoall.is c.requires c.alltoall.ensures

pub returns-in-Contiguous : goal.returns-in-Contiguous
returns-in-Contiguous c = read_as c.args.version _ form.Contiguous c.args.fields.now nowhere _ c.in-Contiguous.is c.requires c.contiguous.ensures

pub returns-in-Vector : goal.returns-in-Vector
returns-in-Vector c = read_as c.args.version _ form.Vector c.args.fields.now nowhere _ c.in-Vector.is c.requires c.vector.ensures

pub returns-in-Hvector : goal.returns-in-Hvector
returns-in-Hvector c = read_as c.args.version _ form.Hvector c.args.fields.now nowhere _ c.in-Hvector.is c.requires c.hvector.ensures

pub returns-in-Indexed : goal.returns-in-Indexed
returns-in-Indexed c = read_rest c.args.version _ form.Indexed c.args.fields.now nowhere _ _ c.in-Indexed.is c.requires c.behind-in-Indexed.ensures.texts c.indexed.ensures

pub returns-in-Hindexed : goal.returns-in-Hindexed
returns-in-Hindexed c = read_rest c.args.version _ form.Hindexed c.args.fields.now nowhere _ _ c.in-Hindexed.is c.requires c.behind-in-Hindexed.ensures.texts c.hindexed.ensures

pub returns-in-IndexedBlock : goal.returns-in-IndexedBlock
returns-in-IndexedBlock c = read_rest c.args.version _ form.IndexedBlock c.args.fields.now nowhere _ _ c.in-IndexedBlock.is c.requires c.behind-in-IndexedBlock.ensures.texts c.indexed_block.ensures

pub returns-in-Struct : goal.returns-in-Struct
returns-in-Struct c = read_rest c.args.version _ form.Struct c.args.fields.now nowhere _ _ c.in-Struct.is c.requires c.behind-in-Struct.ensures.texts c.structure.ensures

pub returns-in-Resized : goal.returns-in-Resized
returns-in-Resized c = read_as c.args.version _ form.Resized c.args.fields.now nowhere _ c.in-Resized.is c.requires c.resized.ensures

pub returns-in-Subarray : goal.returns-in-Subarray
returns-in-Subarray c = read_rest c.args.version _ form.Subarray c.args.fields.now nowhere _ _ c.in-Subarray.is c.requires c.behind-in-Subarray.ensures.texts c.subarray.ensures

pub returns-in-Commit : goal.returns-in-Commit
returns-in-Commit c = read_as c.args.version _ form.Commit c.args.fields.now nowhere _ c.in-Commit.is c.requires c.commit.ensures

pub returns-in-FreeType : goal.returns-in-FreeType
returns-in-FreeType c = read_as c.args.version _ form.FreeType c.args.fields.now nowhere _ c.in-FreeType.is c.requires c.free-in-FreeType.ensures

pub returns-in-Put : goal.returns-in-Put
returns-in-Put c = read_as c.args.version _ form.Put c.args.fields.now nowhere _ c.in-Put.is c.requires c.transfer.ensures

pub returns-in-Get : goal.returns-in-Get
returns-in-Get c = read_as c.args.version _ form.Get c.args.fields.now nowhere _ c.in-Get.is c.requires c.transfer-in-Get.ensures

pub returns-in-Accumulate : goal.returns-in-Accumulate
returns-in-Accumulate c = read_as c.args.version _ form.Accumulate c.args.fields.now nowhere _ c.in-Accumulate.is c.requires c.accumulate.ensures

pub returns-in-GetAccumulate : goal.returns-in-GetAccumulate
returns-in-GetAccumulate c = read_as c.args.version _ form.GetAccumulate c.args.fields.now nowhere _ c.in-GetAccumulate.is c.requires c.get_accumulate.ensures

pub returns-in-FetchAndOp : goal.returns-in-FetchAndOp
returns-in-FetchAndOp c = read_as c.args.version _ form.FetchAndOp c.args.fields.now nowhere _ c.in-FetchAndOp.is c.requires c.fetch_and_op.ensures

pub returns-in-CompareAndSwap : goal.returns-in-CompareAndSwap
returns-in-CompareAndSwap c = read_as c.args.version _ form.CompareAndSwap c.args.fields.now nowhere _ c.in-CompareAndSwap.is c.requires c.compare_and_swap.ensures

pub returns-in-Rput : goal.returns-in-Rput
returns-in-Rput c = read_as c.args.version _ form.Rput c.args.fields.now nowhere _ c.in-Rput.is c.requires c.requested.ensures

pub returns-in-Rget : goal.returns-in-Rget
returns-in-Rget c = read_as c.args.version _ form.Rget c.args.fields.now nowhere _ c.in-Rget.is c.requires c.requested-in-Rget.ensures

pub returns-in-Raccumulate : goal.returns-in-Raccumulate
returns-in-Raccumulate c = read_as c.args.version _ form.Raccumulate c.args.fields.now nowhere _ c.in-Raccumulate.is c.requires c.raccumulate.ensures

pub returns-in-RgetAccumulate : goal.returns-in-RgetAccumulate
returns-in-RgetAccumulate c = read_as c.args.version _ form.RgetAccumulate c.args.fields.now nowhere _ c.in-RgetAccumulate.is c.requires c.rget_accumulate.ensures

pub returns-in-Load : goal.returns-in-Load
returns-in-Load c = read_as c.args.version _ form.Load c.args.fields.now nowhere _ c.in-Load.is c.requires c.access.ensures

pub returns-in-Store : goal.returns-in-Store
returns-in-Store c = read_as c.args.version _ form.Store c.args.fields.now nowhere _ c.in-Store.is c.requires c.access-in-Store.ensures

pub returns-in-Poll : goal.returns-in-Poll
returns-in-Poll c = read_as c.args.version _ form.Poll c.args.fields.now nowhere _ c.in-Poll.is c.requires c.access-in-Poll.ensures
