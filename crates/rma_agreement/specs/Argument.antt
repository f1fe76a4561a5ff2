-- What the calls of one round have to agree on (MPI 4.0, "Collective Communication" and "One-Sided Communications").
use Rattle.std.specs.Prelude.{ℕ, Bool, true, false, nat_eq, ◌==◌, ◌&&◌}
use Rattle.std.specs.Bool.{beq}
use Rattle.std.specs.Cmp.Lexicographic.{pointwise}
use Rattle.rma_call.specs.declared.what.What.{What}
use Rattle.rma_call.specs.declared.what.What.TheVariants.{Sync}
use Rattle.rma_call.specs.declared.what.SyncCall.TheVariants as sync
use Rattle.rma_call.specs.declared.frame.FrameCall.TheVariants as frame
use Rattle.rma_call.specs.declared.window.WindowCall.TheVariants as window_call
use Rattle.rma_call.specs.declared.epoch.EpochCall.TheVariants as epoch
use Rattle.rma_call.specs.declared.moving.MovingCall.{MovingCall}
use Rattle.rma_call.specs.declared.moving.MovingCall.TheVariants as moving
use Rattle.rma_agreement.specs.declared.argument.Movement.{Movement}
use Rattle.rma_agreement.specs.declared.argument.Movement.TheVariants.{Bcast, Scatter, Gather, Reduce, Allreduce, Allgather, Alltoall}
use Rattle.rma_agreement.specs.declared.argument.Transfer.{Transfer}
use Rattle.rma_agreement.specs.declared.argument.Arguments.{Arguments}
use Rattle.rma_agreement.specs.declared.argument.Arguments.TheVariants.{Barrier, Creation, Fence, Moving, Nothing}

-- what a call moves, after so many barriers and window creations on its communicator
abbrev pub transfer_of : ℕ → MovingCall → Transfer
transfer_of place (moving.Bcast root bytes comm) = record { movement = Bcast root; bytes = bytes; place = place }
transfer_of place (moving.Scatter root bytes comm) = record { movement = Scatter root; bytes = bytes; place = place }
transfer_of place (moving.Gather root bytes comm) = record { movement = Gather root; bytes = bytes; place = place }
transfer_of place (moving.Reduce root bytes comm) = record { movement = Reduce root; bytes = bytes; place = place }
transfer_of place (moving.Allreduce bytes comm) = record { movement = Allreduce; bytes = bytes; place = place }
transfer_of place (moving.Allgather bytes comm) = record { movement = Allgather; bytes = bytes; place = place }
transfer_of place (moving.Alltoall bytes comm) = record { movement = Alltoall; bytes = bytes; place = place }

-- what a call has to agree on with the others of its round: of the words of a fence noprecede and nosucceed alone
abbrev pub arguments_of : ℕ → What → Arguments
arguments_of place (Sync (sync.Frame (frame.Barrier comm))) = Barrier
arguments_of place (Sync (sync.Window (window_call.Create window comm base size unit model ops dynamic))) = Creation window
arguments_of place (Sync (sync.Epoch (epoch.Fence window assertions))) = Fence assertions.noprecede assertions.nosucceed
arguments_of place (Sync (sync.Moving call)) = Moving (transfer_of place call)
arguments_of place _ = Nothing

-- whether two calls move data alike, from or to the same root
abbrev pub same_movement : Movement → Movement → Bool
same_movement (Bcast first) (Bcast own) = own.0 == first.0
same_movement (Scatter first) (Scatter own) = own.0 == first.0
same_movement (Gather first) (Gather own) = own.0 == first.0
same_movement (Reduce first) (Reduce own) = own.0 == first.0
same_movement Allreduce Allreduce = true
same_movement Allgather Allgather = true
same_movement Alltoall Alltoall = true
same_movement _ _ = false

-- whether they also move as many bytes, after as many barriers and window creations
abbrev pub same_transfer : Transfer → Transfer → Bool
same_transfer first own = same_movement first.movement own.movement && own.bytes == first.bytes && own.place == first.place

-- whether two calls of a round agree
abbrev pub same_arguments : Arguments → Arguments → Bool
same_arguments Barrier Barrier = true
same_arguments (Creation first) (Creation own) = pointwise nat_eq own first
same_arguments (Fence noprecede nosucceed) (Fence own_noprecede own_nosucceed) = beq own_noprecede noprecede && beq own_nosucceed nosucceed
same_arguments (Moving first) (Moving own) = same_transfer first own
same_arguments Nothing Nothing = true
same_arguments _ _ = false
