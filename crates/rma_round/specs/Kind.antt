-- The calls that every member of a communicator or a window has to make, and what each is on (MPI 4.0, "Collective
-- Communication" and "One-Sided Communications").
use Rattle.std.specs.Prelude.{ℕ, List, Bool, false, Option, Some, None, nat_eq, count_by}
use Rattle.std.specs.Option.{option_map_or}
use Rattle.std.specs.Cmp.Lexicographic.{pointwise}
use Rattle.rma_call.specs.Call.{Call}
use Rattle.rma_call.specs.declared.what.What.{What}
use Rattle.rma_call.specs.declared.what.What.TheVariants.{Sync}
use Rattle.rma_call.specs.declared.what.SyncCall.TheVariants.{Frame, Window, Epoch, Moving}
use Rattle.rma_call.specs.declared.frame.FrameCall.TheVariants.{Barrier}
use Rattle.rma_call.specs.declared.window.WindowCall.TheVariants.{Create, Free}
use Rattle.rma_call.specs.declared.epoch.EpochCall.TheVariants.{Fence}
use Rattle.rma_call.specs.declared.moving.MovingCall.{MovingCall}
use Rattle.rma_call.specs.declared.moving.MovingCall.TheVariants.{Bcast, Scatter, Gather, Reduce, Allreduce, Allgather, Alltoall}
use Rattle.rma_round.specs.declared.kind.Kind.{Kind}
use Rattle.rma_round.specs.declared.kind.Kind.TheVariants as kind

-- the communicator of a barrier or of a creation of a window
abbrev pub comm_of : What → Option (List ℕ)
comm_of (Sync (Frame (Barrier comm))) = Some comm
comm_of (Sync (Window (Create window comm base size unit model ops dynamic))) = Some comm
comm_of _ = None

-- the window that a call frees
abbrev pub freed : What → Option (List ℕ)
freed (Sync (Window (Free window))) = Some window
freed _ = None

-- the window of a fence
abbrev pub fenced : What → Option (List ℕ)
fenced (Sync (Epoch (Fence window assertions))) = Some window
fenced _ = None

-- the communicator of a call that moves data
abbrev pub comm_of_moving : MovingCall → List ℕ
comm_of_moving (Bcast root bytes comm) = comm
comm_of_moving (Scatter root bytes comm) = comm
comm_of_moving (Gather root bytes comm) = comm
comm_of_moving (Reduce root bytes comm) = comm
comm_of_moving (Allreduce bytes comm) = comm
comm_of_moving (Allgather bytes comm) = comm
comm_of_moving (Alltoall bytes comm) = comm

-- the communicator on which a call moves data
abbrev pub moved_on : What → Option (List ℕ)
moved_on (Sync (Moving call)) = Some (comm_of_moving call)
moved_on _ = None

-- what a call of each kind is on
abbrev pub named : Kind → What → Option (List ℕ)
named kind.Collective what = comm_of what
named kind.Free what = freed what
named kind.Fence what = fenced what
named kind.Moving what = moved_on what

-- whether a call of this kind is on this name
abbrev pub is_on : Kind → List ℕ → Call → Bool
is_on kind name call = option_map_or (λ own. pointwise nat_eq own name) (named kind call.what) false

-- the number of calls of this kind on this name
abbrev pub count_of : Kind → List ℕ → List Call → ℕ
count_of kind name calls = count_by (is_on kind name) calls
