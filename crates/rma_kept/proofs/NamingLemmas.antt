-- What calls say of names and ranks is what their lines say.
use Rattle.std.proofs.Common.{◌≡◌, ℕ, Bool, true, false, List, Option, Some, None, is_none, option_map, refl, sym, ap, ◌∙◌}
use Rattle.std.proofs.lemmas.Option.{some_pair_parts}
use Rattle.rma_buffer.specs.Calls.{local_call_of, rma_call_of}
use Rattle.rma_buffer.specs.Operands.{operand_of, operands_of}
use Rattle.rma_buffer.specs.declared.operand.Operand.{Operand}
use Rattle.rma_buffer.specs.declared.operand.Operands.{Operands}
use Rattle.rma_call.specs.declared.epoch.EpochCall.TheVariants.{Fence, Post, Start, Complete, Expwait, Lock, Unlock, LockAll, UnlockAll, Flush, FlushAll, FlushLocal, FlushLocalAll}
use Rattle.rma_call.specs.declared.epoch.EpochCall.TheVariants as epoch
use Rattle.rma_call.specs.declared.frame.FrameCall.TheVariants.{Comm, Barrier}
use Rattle.rma_call.specs.declared.message.MessageCall.TheVariants.{Send, Recv, Isend, Irecv, Wait}
use Rattle.rma_call.specs.declared.moving.MovingCall.TheVariants.{Bcast, Scatter, Gather, Reduce, Allreduce, Allgather, Alltoall}
use Rattle.rma_call.specs.declared.what.SyncCall.{SyncCall}
use Rattle.rma_call.specs.declared.what.SyncCall.TheVariants.{Frame, Message, Window, Epoch, Moving}
use Rattle.rma_call.specs.declared.what.What.{What}
use Rattle.rma_call.specs.declared.what.What.TheVariants as what
use Rattle.rma_call.specs.declared.window.WindowCall.TheVariants.{Create, Free, Attach, Detach}
use Rattle.rma_form.specs.declared.event.Event.{Event}
use Rattle.rma_form.specs.declared.event.Event.TheVariants.{Header, End, Call, Datatype, Rma, Local}
use Rattle.rma_judge.specs.Calls.{what_in}
use Rattle.rma_judge.specs.Judging.{lacks_type}
use Rattle.rma_judge.specs.Naming.{Attributes, attributes_of, created_state, no_attributes}
use Rattle.rma_judge.specs.declared.names.WindowState.{WindowState}
use Rattle.rma_judge.specs.declared.names.WindowState.TheVariants.{Dynamic, Fixed, Freed}
use Rattle.rma_type.specs.Table.{Table}
use Rattle.rma_kept.specs.Naming.{names_of}

-- what is said without the request
abbrev pub unnamed : Attributes → Attributes
unnamed it = record it { made = None; awaited = None }

sync_says : (call : SyncCall) (request : Option (List ℕ)) → attributes_of (Call call None) ≡ unnamed (attributes_of (Call call request))
sync_says (Frame (Comm comm ranks)) request = refl
sync_says (Frame (Barrier comm)) request = refl
sync_says (Message (Send to tag comm)) request = refl
sync_says (Message (Recv from tag comm)) request = refl
sync_says (Message (Isend to tag comm)) request = refl
sync_says (Message (Irecv comm)) request = refl
sync_says (Message (Wait received)) request = refl
sync_says (Window (Create window comm base bytes unit model operations dynamic)) request = refl
sync_says (Window (Free window)) request = refl
sync_says (Window (Attach window address bytes)) request = refl
sync_says (Window (Detach window address)) request = refl
sync_says (Epoch (Fence window assertions)) request = refl
sync_says (Epoch (Post window origins assertions)) request = refl
sync_says (Epoch (Start window targets assertions)) request = refl
sync_says (Epoch (Complete window)) request = refl
sync_says (Epoch (Expwait window)) request = refl
sync_says (Epoch (Lock window target kind assertions)) request = refl
sync_says (Epoch (Unlock window target)) request = refl
sync_says (Epoch (LockAll window assertions)) request = refl
sync_says (Epoch (UnlockAll window)) request = refl
sync_says (Epoch (Flush window target)) request = refl
sync_says (Epoch (FlushAll window)) request = refl
sync_says (Epoch (FlushLocal window target)) request = refl
sync_says (Epoch (FlushLocalAll window)) request = refl
sync_says (Epoch (epoch.Sync window)) request = refl
sync_says (Moving (Bcast root bytes comm)) request = refl
sync_says (Moving (Scatter root bytes comm)) request = refl
sync_says (Moving (Gather root bytes comm)) request = refl
sync_says (Moving (Reduce root bytes comm)) request = refl
sync_says (Moving (Allreduce bytes comm)) request = refl
sync_says (Moving (Allgather bytes comm)) request = refl
sync_says (Moving (Alltoall bytes comm)) request = refl

-- the call of an event says what the event says
pub call_says : (types : Table) (event : Event) (does : What) → what_in types event ≡ Some does → names_of does ≡ unnamed (attributes_of event)
unfolding rma_call_of
call_says types (Header version rank size) does is = let none : None ≡ Some does = is in cc none
call_says types End does is = let none : None ≡ Some does = is in cc none
call_says types (Datatype line) does is = let none : None ≡ Some does = is in cc none
call_says types (Call call request) does is = let same : what.Sync call ≡ does = cc in ap names_of (sym same) ∙ sync_says call request
call_says types (Rma line request) does is = by (operands_of types.live line.access) is
  where
    by : (operands : Option Operands) → option_map (λ operands. what.Rma (rma_call_of types.origins line operands)) operands ≡ Some does
        → names_of does ≡ unnamed (attributes_of (Rma line request))
    by None is = cc
    by (Some operands) is = let same : what.Rma (rma_call_of types.origins line operands) ≡ does = cc in ap names_of (sym same)
call_says types (Local line) does is = by (operand_of types.live line.buffer) is
  where
    by : (memory : Option Operand) → option_map (λ memory. what.Local (local_call_of types.origins line.access memory)) memory ≡ Some does
        → names_of does ≡ no_attributes
    by None is = cc
    by (Some memory) is = let same : what.Local (local_call_of types.origins line.access memory) ≡ does = cc in ap names_of (sym same)

-- an event that is no call says nothing of names and ranks
pub others_say : (types : Table) (event : Event) → what_in types event ≡ None → lacks_type types event ≡ false → attributes_of event ≡ no_attributes
others_say types (Header version rank size) is live = refl
others_say types End is live = refl
others_say types (Datatype line) is live = refl
others_say types (Call call request) is live = cc
others_say types (Rma line request) is live = by (operands_of types.live line.access) is live
  where
    by : (operands : Option Operands) → option_map (λ operands. what.Rma (rma_call_of types.origins line operands)) operands ≡ None → is_none operands ≡ false
        → attributes_of (Rma line request) ≡ no_attributes
    by None is live = cc
    by (Some operands) is live = cc
others_say types (Local line) is live = refl

-- ---- creations

-- what is said of a window
abbrev pub made_of : List ℕ → WindowState → Option (List ℕ × WindowState)
made_of window state = Some (window, state)

-- a window that is created is not freed
pub not_freed : (own window : List ℕ) (dynamic : Bool) → made_of own Freed ≡ made_of window (created_state dynamic) → ⊥
not_freed own window true h = let other : Freed ≡ Dynamic = (some_pair_parts own window Freed Dynamic h).1 in cc other
not_freed own window false h = let other : Freed ≡ Fixed = (some_pair_parts own window Freed Fixed h).1 in cc other

-- a call that creates a window as the state of it says is a creation
sync_created : (call : SyncCall) (window : List ℕ) (dynamic : Bool) → (attributes_of (Call call None)).window ≡ Some (window, created_state dynamic) → (attributes_of (Call call None)).created ≡ Some window
sync_created (Frame (Comm comm ranks)) window dynamic h = cc
sync_created (Frame (Barrier comm)) window dynamic h = cc
sync_created (Message (Send to tag comm)) window dynamic h = cc
sync_created (Message (Recv from tag comm)) window dynamic h = cc
sync_created (Message (Isend to tag comm)) window dynamic h = cc
sync_created (Message (Irecv comm)) window dynamic h = cc
sync_created (Message (Wait received)) window dynamic h = cc
sync_created (Window (Create own comm base bytes unit model operations is)) window dynamic h =
    ap Some (some_pair_parts own window (created_state is) (created_state dynamic) h).0
sync_created (Window (Free own)) window dynamic h = absurd (not_freed own window dynamic h)
sync_created (Window (Attach own address bytes)) window dynamic h = cc
sync_created (Window (Detach own address)) window dynamic h = cc
sync_created (Epoch (Fence own assertions)) window dynamic h = cc
sync_created (Epoch (Post own origins assertions)) window dynamic h = cc
sync_created (Epoch (Start own targets assertions)) window dynamic h = cc
sync_created (Epoch (Complete own)) window dynamic h = cc
sync_created (Epoch (Expwait own)) window dynamic h = cc
sync_created (Epoch (Lock own target kind assertions)) window dynamic h = cc
sync_created (Epoch (Unlock own target)) window dynamic h = cc
sync_created (Epoch (LockAll own assertions)) window dynamic h = cc
sync_created (Epoch (UnlockAll own)) window dynamic h = cc
sync_created (Epoch (Flush own target)) window dynamic h = cc
sync_created (Epoch (FlushAll own)) window dynamic h = cc
sync_created (Epoch (FlushLocal own target)) window dynamic h = cc
sync_created (Epoch (FlushLocalAll own)) window dynamic h = cc
sync_created (Epoch (epoch.Sync own)) window dynamic h = cc
sync_created (Moving (Bcast root bytes comm)) window dynamic h = cc
sync_created (Moving (Scatter root bytes comm)) window dynamic h = cc
sync_created (Moving (Gather root bytes comm)) window dynamic h = cc
sync_created (Moving (Reduce root bytes comm)) window dynamic h = cc
sync_created (Moving (Allreduce bytes comm)) window dynamic h = cc
sync_created (Moving (Allgather bytes comm)) window dynamic h = cc
sync_created (Moving (Alltoall bytes comm)) window dynamic h = cc

pub created_is : (does : What) (window : List ℕ) (dynamic : Bool) → (names_of does).window ≡ Some (window, created_state dynamic) → (names_of does).created ≡ Some window
created_is (what.Sync call) window dynamic h = sync_created call window dynamic h
created_is (what.Rma call) window dynamic h = cc
created_is (what.Local call) window dynamic h = cc

-- ---- attached memory

-- a call that attaches memory to a window, or detaches some, needs the window
sync_attached : (call : SyncCall) (window : List ℕ) → (attributes_of (Call call None)).attached ≡ Some window → (attributes_of (Call call None)).needed_window ≡ Some window
sync_attached (Frame (Comm comm ranks)) window h = cc
sync_attached (Frame (Barrier comm)) window h = cc
sync_attached (Message (Send to tag comm)) window h = cc
sync_attached (Message (Recv from tag comm)) window h = cc
sync_attached (Message (Isend to tag comm)) window h = cc
sync_attached (Message (Irecv comm)) window h = cc
sync_attached (Message (Wait received)) window h = cc
sync_attached (Window (Create own comm base bytes unit model operations is)) window h = cc
sync_attached (Window (Free own)) window h = cc
sync_attached (Window (Attach own address bytes)) window h = h
sync_attached (Window (Detach own address)) window h = h
sync_attached (Epoch (Fence own assertions)) window h = cc
sync_attached (Epoch (Post own origins assertions)) window h = cc
sync_attached (Epoch (Start own targets assertions)) window h = cc
sync_attached (Epoch (Complete own)) window h = cc
sync_attached (Epoch (Expwait own)) window h = cc
sync_attached (Epoch (Lock own target kind assertions)) window h = cc
sync_attached (Epoch (Unlock own target)) window h = cc
sync_attached (Epoch (LockAll own assertions)) window h = cc
sync_attached (Epoch (UnlockAll own)) window h = cc
sync_attached (Epoch (Flush own target)) window h = cc
sync_attached (Epoch (FlushAll own)) window h = cc
sync_attached (Epoch (FlushLocal own target)) window h = cc
sync_attached (Epoch (FlushLocalAll own)) window h = cc
sync_attached (Epoch (epoch.Sync own)) window h = cc
sync_attached (Moving (Bcast root bytes comm)) window h = cc
sync_attached (Moving (Scatter root bytes comm)) window h = cc
sync_attached (Moving (Gather root bytes comm)) window h = cc
sync_attached (Moving (Reduce root bytes comm)) window h = cc
sync_attached (Moving (Allreduce bytes comm)) window h = cc
sync_attached (Moving (Allgather bytes comm)) window h = cc
sync_attached (Moving (Alltoall bytes comm)) window h = cc

pub attached_is : (does : What) (window : List ℕ) → (names_of does).attached ≡ Some window → (names_of does).needed_window ≡ Some window
attached_is (what.Sync call) window h = sync_attached call window h
attached_is (what.Rma call) window h = cc
attached_is (what.Local call) window h = cc

-- ---- roots

-- a call that names a root names its communicator
sync_root : (call : SyncCall) (comm : List ℕ) (root : ℕ) → (attributes_of (Call call None)).root ≡ Some (comm, root) → (attributes_of (Call call None)).needed_comm ≡ Some comm
sync_root (Frame (Comm comm ranks)) name number h = cc
sync_root (Frame (Barrier comm)) name number h = cc
sync_root (Message (Send to tag comm)) name number h = cc
sync_root (Message (Recv from tag comm)) name number h = cc
sync_root (Message (Isend to tag comm)) name number h = cc
sync_root (Message (Irecv comm)) name number h = cc
sync_root (Message (Wait received)) name number h = cc
sync_root (Window (Create own comm base bytes unit model operations is)) name number h = cc
sync_root (Window (Free own)) name number h = cc
sync_root (Window (Attach own address bytes)) name number h = cc
sync_root (Window (Detach own address)) name number h = cc
sync_root (Epoch (Fence own assertions)) name number h = cc
sync_root (Epoch (Post own origins assertions)) name number h = cc
sync_root (Epoch (Start own targets assertions)) name number h = cc
sync_root (Epoch (Complete own)) name number h = cc
sync_root (Epoch (Expwait own)) name number h = cc
sync_root (Epoch (Lock own target kind assertions)) name number h = cc
sync_root (Epoch (Unlock own target)) name number h = cc
sync_root (Epoch (LockAll own assertions)) name number h = cc
sync_root (Epoch (UnlockAll own)) name number h = cc
sync_root (Epoch (Flush own target)) name number h = cc
sync_root (Epoch (FlushAll own)) name number h = cc
sync_root (Epoch (FlushLocal own target)) name number h = cc
sync_root (Epoch (FlushLocalAll own)) name number h = cc
sync_root (Epoch (epoch.Sync own)) name number h = cc
sync_root (Moving (Bcast root bytes comm)) name number h = ap Some (some_pair_parts comm name root.0 number h).0
sync_root (Moving (Scatter root bytes comm)) name number h = ap Some (some_pair_parts comm name root.0 number h).0
sync_root (Moving (Gather root bytes comm)) name number h = ap Some (some_pair_parts comm name root.0 number h).0
sync_root (Moving (Reduce root bytes comm)) name number h = ap Some (some_pair_parts comm name root.0 number h).0
sync_root (Moving (Allreduce bytes comm)) name number h = cc
sync_root (Moving (Allgather bytes comm)) name number h = cc
sync_root (Moving (Alltoall bytes comm)) name number h = cc

pub root_is : (does : What) (comm : List ℕ) (root : ℕ) → (names_of does).root ≡ Some (comm, root) → (names_of does).needed_comm ≡ Some comm
root_is (what.Sync call) comm root h = sync_root call comm root h
root_is (what.Rma call) comm root h = cc
root_is (what.Local call) comm root h = cc
