-- What calls say of names, in the words of the crates that match them.
use Rattle.std.proofs.Common.{◌≡◌, ℕ, Bool, List, Some, refl, sym, ap, subst}
use Rattle.std.proofs.lemmas.Option.{some_pair_parts}
use Rattle.rma_agreement.specs.Argument.{arguments_of}
use Rattle.rma_agreement.specs.declared.argument.Arguments.TheVariants.{Creation}
use Rattle.rma_base.specs.declared.rank.Rank.{Rank}
use Rattle.rma_base.specs.declared.window.AccOps.{AccOps}
use Rattle.rma_base.specs.declared.window.WinModel.{WinModel}
use Rattle.rma_call.specs.declared.epoch.EpochCall.TheVariants.{Fence, Post, Start, Complete, Expwait, Lock, Unlock, LockAll, UnlockAll, Flush, FlushAll, FlushLocal, FlushLocalAll}
use Rattle.rma_call.specs.declared.epoch.EpochCall.TheVariants as epoch
use Rattle.rma_call.specs.declared.frame.FrameCall.TheVariants.{Comm, Barrier}
use Rattle.rma_call.specs.declared.message.MessageCall.TheVariants.{Send, Recv, Isend, Irecv, Wait}
use Rattle.rma_call.specs.declared.moving.MovingCall.TheVariants.{Bcast, Scatter, Gather, Reduce, Allreduce, Allgather, Alltoall}
use Rattle.rma_call.specs.declared.what.SyncCall.TheVariants.{Frame, Message, Window, Epoch, Moving}
use Rattle.rma_call.specs.declared.what.What.{What}
use Rattle.rma_call.specs.declared.what.What.TheVariants as what
use Rattle.rma_call.specs.declared.window.WindowCall.TheVariants.{Create, Free, Attach, Detach}
use Rattle.rma_judge.specs.Naming.{created_state}
use Rattle.rma_kept.proofs.NamingLemmas.{not_freed}
use Rattle.rma_kept.specs.Naming.{names_of}
use Rattle.rma_member.specs.Attribute.{created, declared}
use Rattle.rma_member.specs.declared.attribute.WindowAttributes.{WindowAttributes}
use Rattle.rma_round.specs.Kind.{comm_of, fenced, freed, moved_on}
use Rattle.rma_window.specs.Creation.{Creation as CreationOf, creation_of, part_of_call}

-- ---- communicators

pub declared_same : (does : What) → (names_of does).declared ≡ declared does
declared_same (what.Sync (Frame (Comm comm ranks))) = refl
declared_same (what.Sync (Frame (Barrier comm))) = refl
declared_same (what.Sync (Message (Send to tag comm))) = refl
declared_same (what.Sync (Message (Recv from tag comm))) = refl
declared_same (what.Sync (Message (Isend to tag comm))) = refl
declared_same (what.Sync (Message (Irecv comm))) = refl
declared_same (what.Sync (Message (Wait received))) = refl
declared_same (what.Sync (Window (Create own comm base bytes unit model operations is))) = refl
declared_same (what.Sync (Window (Free own))) = refl
declared_same (what.Sync (Window (Attach own address bytes))) = refl
declared_same (what.Sync (Window (Detach own address))) = refl
declared_same (what.Sync (Epoch (Fence own assertions))) = refl
declared_same (what.Sync (Epoch (Post own origins assertions))) = refl
declared_same (what.Sync (Epoch (Start own targets assertions))) = refl
declared_same (what.Sync (Epoch (Complete own))) = refl
declared_same (what.Sync (Epoch (Expwait own))) = refl
declared_same (what.Sync (Epoch (Lock own target kind assertions))) = refl
declared_same (what.Sync (Epoch (Unlock own target))) = refl
declared_same (what.Sync (Epoch (LockAll own assertions))) = refl
declared_same (what.Sync (Epoch (UnlockAll own))) = refl
declared_same (what.Sync (Epoch (Flush own target))) = refl
declared_same (what.Sync (Epoch (FlushAll own))) = refl
declared_same (what.Sync (Epoch (FlushLocal own target))) = refl
declared_same (what.Sync (Epoch (FlushLocalAll own))) = refl
declared_same (what.Sync (Epoch (epoch.Sync own))) = refl
declared_same (what.Sync (Moving (Bcast root bytes comm))) = refl
declared_same (what.Sync (Moving (Scatter root bytes comm))) = refl
declared_same (what.Sync (Moving (Gather root bytes comm))) = refl
declared_same (what.Sync (Moving (Reduce root bytes comm))) = refl
declared_same (what.Sync (Moving (Allreduce bytes comm))) = refl
declared_same (what.Sync (Moving (Allgather bytes comm))) = refl
declared_same (what.Sync (Moving (Alltoall bytes comm))) = refl
declared_same (what.Rma access) = refl
declared_same (what.Local access) = refl

pub declared_group : (does : What) (comm numbers : List ℕ) → declared does ≡ Some (comm, numbers) → (names_of does).group ≡ Some numbers
declared_group (what.Sync (Frame (Comm comm ranks))) name numbers h = ap Some (some_pair_parts comm name ranks numbers h).1
declared_group (what.Sync (Frame (Barrier comm))) name numbers h = cc
declared_group (what.Sync (Message (Send to tag comm))) name numbers h = cc
declared_group (what.Sync (Message (Recv from tag comm))) name numbers h = cc
declared_group (what.Sync (Message (Isend to tag comm))) name numbers h = cc
declared_group (what.Sync (Message (Irecv comm))) name numbers h = cc
declared_group (what.Sync (Message (Wait received))) name numbers h = cc
declared_group (what.Sync (Window (Create own comm base bytes unit model operations is))) name numbers h = cc
declared_group (what.Sync (Window (Free own))) name numbers h = cc
declared_group (what.Sync (Window (Attach own address bytes))) name numbers h = cc
declared_group (what.Sync (Window (Detach own address))) name numbers h = cc
declared_group (what.Sync (Epoch (Fence own assertions))) name numbers h = cc
declared_group (what.Sync (Epoch (Post own origins assertions))) name numbers h = cc
declared_group (what.Sync (Epoch (Start own targets assertions))) name numbers h = cc
declared_group (what.Sync (Epoch (Complete own))) name numbers h = cc
declared_group (what.Sync (Epoch (Expwait own))) name numbers h = cc
declared_group (what.Sync (Epoch (Lock own target kind assertions))) name numbers h = cc
declared_group (what.Sync (Epoch (Unlock own target))) name numbers h = cc
declared_group (what.Sync (Epoch (LockAll own assertions))) name numbers h = cc
declared_group (what.Sync (Epoch (UnlockAll own))) name numbers h = cc
declared_group (what.Sync (Epoch (Flush own target))) name numbers h = cc
declared_group (what.Sync (Epoch (FlushAll own))) name numbers h = cc
declared_group (what.Sync (Epoch (FlushLocal own target))) name numbers h = cc
declared_group (what.Sync (Epoch (FlushLocalAll own))) name numbers h = cc
declared_group (what.Sync (Epoch (epoch.Sync own))) name numbers h = cc
declared_group (what.Sync (Moving (Bcast root bytes comm))) name numbers h = cc
declared_group (what.Sync (Moving (Scatter root bytes comm))) name numbers h = cc
declared_group (what.Sync (Moving (Gather root bytes comm))) name numbers h = cc
declared_group (what.Sync (Moving (Reduce root bytes comm))) name numbers h = cc
declared_group (what.Sync (Moving (Allreduce bytes comm))) name numbers h = cc
declared_group (what.Sync (Moving (Allgather bytes comm))) name numbers h = cc
declared_group (what.Sync (Moving (Alltoall bytes comm))) name numbers h = cc
declared_group (what.Rma access) name numbers h = cc
declared_group (what.Local access) name numbers h = cc

pub collective_names : (does : What) (comm : List ℕ) → comm_of does ≡ Some comm → (names_of does).needed_comm ≡ Some comm
collective_names (what.Sync (Frame (Comm comm ranks))) name h = cc
collective_names (what.Sync (Frame (Barrier comm))) own h = h
collective_names (what.Sync (Message (Send to tag comm))) name h = cc
collective_names (what.Sync (Message (Recv from tag comm))) name h = cc
collective_names (what.Sync (Message (Isend to tag comm))) name h = cc
collective_names (what.Sync (Message (Irecv comm))) name h = cc
collective_names (what.Sync (Message (Wait received))) name h = cc
collective_names (what.Sync (Window (Create own comm base bytes unit model operations is))) own_comm h = h
collective_names (what.Sync (Window (Free own))) name h = cc
collective_names (what.Sync (Window (Attach own address bytes))) name h = cc
collective_names (what.Sync (Window (Detach own address))) name h = cc
collective_names (what.Sync (Epoch (Fence own assertions))) name h = cc
collective_names (what.Sync (Epoch (Post own origins assertions))) name h = cc
collective_names (what.Sync (Epoch (Start own targets assertions))) name h = cc
collective_names (what.Sync (Epoch (Complete own))) name h = cc
collective_names (what.Sync (Epoch (Expwait own))) name h = cc
collective_names (what.Sync (Epoch (Lock own target kind assertions))) name h = cc
collective_names (what.Sync (Epoch (Unlock own target))) name h = cc
collective_names (what.Sync (Epoch (LockAll own assertions))) name h = cc
collective_names (what.Sync (Epoch (UnlockAll own))) name h = cc
collective_names (what.Sync (Epoch (Flush own target))) name h = cc
collective_names (what.Sync (Epoch (FlushAll own))) name h = cc
collective_names (what.Sync (Epoch (FlushLocal own target))) name h = cc
collective_names (what.Sync (Epoch (FlushLocalAll own))) name h = cc
collective_names (what.Sync (Epoch (epoch.Sync own))) name h = cc
collective_names (what.Sync (Moving (Bcast root bytes comm))) name h = cc
collective_names (what.Sync (Moving (Scatter root bytes comm))) name h = cc
collective_names (what.Sync (Moving (Gather root bytes comm))) name h = cc
collective_names (what.Sync (Moving (Reduce root bytes comm))) name h = cc
collective_names (what.Sync (Moving (Allreduce bytes comm))) name h = cc
collective_names (what.Sync (Moving (Allgather bytes comm))) name h = cc
collective_names (what.Sync (Moving (Alltoall bytes comm))) name h = cc
collective_names (what.Rma access) name h = cc
collective_names (what.Local access) name h = cc

pub moving_names : (does : What) (comm : List ℕ) → moved_on does ≡ Some comm → (names_of does).needed_comm ≡ Some comm
moving_names (what.Sync (Frame (Comm comm ranks))) name h = cc
moving_names (what.Sync (Frame (Barrier comm))) name h = cc
moving_names (what.Sync (Message (Send to tag comm))) name h = cc
moving_names (what.Sync (Message (Recv from tag comm))) name h = cc
moving_names (what.Sync (Message (Isend to tag comm))) name h = cc
moving_names (what.Sync (Message (Irecv comm))) name h = cc
moving_names (what.Sync (Message (Wait received))) name h = cc
moving_names (what.Sync (Window (Create own comm base bytes unit model operations is))) name h = cc
moving_names (what.Sync (Window (Free own))) name h = cc
moving_names (what.Sync (Window (Attach own address bytes))) name h = cc
moving_names (what.Sync (Window (Detach own address))) name h = cc
moving_names (what.Sync (Epoch (Fence own assertions))) name h = cc
moving_names (what.Sync (Epoch (Post own origins assertions))) name h = cc
moving_names (what.Sync (Epoch (Start own targets assertions))) name h = cc
moving_names (what.Sync (Epoch (Complete own))) name h = cc
moving_names (what.Sync (Epoch (Expwait own))) name h = cc
moving_names (what.Sync (Epoch (Lock own target kind assertions))) name h = cc
moving_names (what.Sync (Epoch (Unlock own target))) name h = cc
moving_names (what.Sync (Epoch (LockAll own assertions))) name h = cc
moving_names (what.Sync (Epoch (UnlockAll own))) name h = cc
moving_names (what.Sync (Epoch (Flush own target))) name h = cc
moving_names (what.Sync (Epoch (FlushAll own))) name h = cc
moving_names (what.Sync (Epoch (FlushLocal own target))) name h = cc
moving_names (what.Sync (Epoch (FlushLocalAll own))) name h = cc
moving_names (what.Sync (Epoch (epoch.Sync own))) name h = cc
moving_names (what.Sync (Moving (Bcast root bytes comm))) name h = h
moving_names (what.Sync (Moving (Scatter root bytes comm))) name h = h
moving_names (what.Sync (Moving (Gather root bytes comm))) name h = h
moving_names (what.Sync (Moving (Reduce root bytes comm))) name h = h
moving_names (what.Sync (Moving (Allreduce bytes comm))) name h = h
moving_names (what.Sync (Moving (Allgather bytes comm))) name h = h
moving_names (what.Sync (Moving (Alltoall bytes comm))) name h = h
moving_names (what.Rma access) name h = cc
moving_names (what.Local access) name h = cc

-- ---- windows

pub free_names : (does : What) (window : List ℕ) → freed does ≡ Some window → (names_of does).needed_window ≡ Some window
free_names (what.Sync (Frame (Comm comm ranks))) name h = cc
free_names (what.Sync (Frame (Barrier comm))) name h = cc
free_names (what.Sync (Message (Send to tag comm))) name h = cc
free_names (what.Sync (Message (Recv from tag comm))) name h = cc
free_names (what.Sync (Message (Isend to tag comm))) name h = cc
free_names (what.Sync (Message (Irecv comm))) name h = cc
free_names (what.Sync (Message (Wait received))) name h = cc
free_names (what.Sync (Window (Create own comm base bytes unit model operations is))) name h = cc
free_names (what.Sync (Window (Free own))) name h = h
free_names (what.Sync (Window (Attach own address bytes))) name h = cc
free_names (what.Sync (Window (Detach own address))) name h = cc
free_names (what.Sync (Epoch (Fence own assertions))) name h = cc
free_names (what.Sync (Epoch (Post own origins assertions))) name h = cc
free_names (what.Sync (Epoch (Start own targets assertions))) name h = cc
free_names (what.Sync (Epoch (Complete own))) name h = cc
free_names (what.Sync (Epoch (Expwait own))) name h = cc
free_names (what.Sync (Epoch (Lock own target kind assertions))) name h = cc
free_names (what.Sync (Epoch (Unlock own target))) name h = cc
free_names (what.Sync (Epoch (LockAll own assertions))) name h = cc
free_names (what.Sync (Epoch (UnlockAll own))) name h = cc
free_names (what.Sync (Epoch (Flush own target))) name h = cc
free_names (what.Sync (Epoch (FlushAll own))) name h = cc
free_names (what.Sync (Epoch (FlushLocal own target))) name h = cc
free_names (what.Sync (Epoch (FlushLocalAll own))) name h = cc
free_names (what.Sync (Epoch (epoch.Sync own))) name h = cc
free_names (what.Sync (Moving (Bcast root bytes comm))) name h = cc
free_names (what.Sync (Moving (Scatter root bytes comm))) name h = cc
free_names (what.Sync (Moving (Gather root bytes comm))) name h = cc
free_names (what.Sync (Moving (Reduce root bytes comm))) name h = cc
free_names (what.Sync (Moving (Allreduce bytes comm))) name h = cc
free_names (what.Sync (Moving (Allgather bytes comm))) name h = cc
free_names (what.Sync (Moving (Alltoall bytes comm))) name h = cc
free_names (what.Rma access) name h = cc
free_names (what.Local access) name h = cc

pub fence_names : (does : What) (window : List ℕ) → fenced does ≡ Some window → (names_of does).needed_window ≡ Some window
fence_names (what.Sync (Frame (Comm comm ranks))) name h = cc
fence_names (what.Sync (Frame (Barrier comm))) name h = cc
fence_names (what.Sync (Message (Send to tag comm))) name h = cc
fence_names (what.Sync (Message (Recv from tag comm))) name h = cc
fence_names (what.Sync (Message (Isend to tag comm))) name h = cc
fence_names (what.Sync (Message (Irecv comm))) name h = cc
fence_names (what.Sync (Message (Wait received))) name h = cc
fence_names (what.Sync (Window (Create own comm base bytes unit model operations is))) name h = cc
fence_names (what.Sync (Window (Free own))) name h = cc
fence_names (what.Sync (Window (Attach own address bytes))) name h = cc
fence_names (what.Sync (Window (Detach own address))) name h = cc
fence_names (what.Sync (Epoch (Fence own assertions))) name h = h
fence_names (what.Sync (Epoch (Post own origins assertions))) name h = cc
fence_names (what.Sync (Epoch (Start own targets assertions))) name h = cc
fence_names (what.Sync (Epoch (Complete own))) name h = cc
fence_names (what.Sync (Epoch (Expwait own))) name h = cc
fence_names (what.Sync (Epoch (Lock own target kind assertions))) name h = cc
fence_names (what.Sync (Epoch (Unlock own target))) name h = cc
fence_names (what.Sync (Epoch (LockAll own assertions))) name h = cc
fence_names (what.Sync (Epoch (UnlockAll own))) name h = cc
fence_names (what.Sync (Epoch (Flush own target))) name h = cc
fence_names (what.Sync (Epoch (FlushAll own))) name h = cc
fence_names (what.Sync (Epoch (FlushLocal own target))) name h = cc
fence_names (what.Sync (Epoch (FlushLocalAll own))) name h = cc
fence_names (what.Sync (Epoch (epoch.Sync own))) name h = cc
fence_names (what.Sync (Moving (Bcast root bytes comm))) name h = cc
fence_names (what.Sync (Moving (Scatter root bytes comm))) name h = cc
fence_names (what.Sync (Moving (Gather root bytes comm))) name h = cc
fence_names (what.Sync (Moving (Reduce root bytes comm))) name h = cc
fence_names (what.Sync (Moving (Allreduce bytes comm))) name h = cc
fence_names (what.Sync (Moving (Allgather bytes comm))) name h = cc
fence_names (what.Sync (Moving (Alltoall bytes comm))) name h = cc
fence_names (what.Rma access) name h = cc
fence_names (what.Local access) name h = cc

-- what a call that creates a window says: with what, and on which communicator
pub record CreatesWith (does : What) (window : List ℕ) : Type 0 where
  pub attributes : WindowAttributes
  pub created : created does ≡ Some (window, attributes)
  pub needs : (names_of does).needed_comm ≡ Some attributes.comm
  pub collective : comm_of does ≡ Some attributes.comm
  pub arguments : (place : ℕ) → arguments_of place does ≡ Creation window
  pub creation : (rank : Rank) (number : ℕ) → (own : CreationOf) × (creation_of rank number does ≡ Some own) × (own.name ≡ window) × (own.rank ≡ rank)

creates_one : (window comm : List ℕ) (base bytes : ℕ) (unit : ℕ) (model : WinModel) (operations : AccOps) (dynamic : Bool)
    → CreatesWith (what.Sync (Window (Create window comm base bytes unit model operations dynamic))) window
creates_one window comm base bytes unit model operations dynamic = record {
  attributes = record { comm = comm; model = model; ops = operations; dynamic = dynamic };
  created = refl;
  needs = refl;
  collective = refl;
  arguments = λ place. refl;
  creation = λ rank number.
      (record { rank = rank; name = window; model = model; ops = operations; dynamic = dynamic; part = part_of_call base bytes unit dynamic number }, refl, refl, refl);
}

same_creation : (does : What) (own window : List ℕ) → own ≡ window → CreatesWith does own → CreatesWith does window
same_creation does own window same h = subst (CreatesWith does) same h

pub creates_from_names : (does : What) (window : List ℕ) (dynamic : Bool) → (names_of does).window ≡ Some (window, created_state dynamic) → CreatesWith does window
creates_from_names (what.Sync (Frame (Comm comm ranks))) window dynamic h = cc
creates_from_names (what.Sync (Frame (Barrier comm))) window dynamic h = cc
creates_from_names (what.Sync (Message (Send to tag comm))) window dynamic h = cc
creates_from_names (what.Sync (Message (Recv from tag comm))) window dynamic h = cc
creates_from_names (what.Sync (Message (Isend to tag comm))) window dynamic h = cc
creates_from_names (what.Sync (Message (Irecv comm))) window dynamic h = cc
creates_from_names (what.Sync (Message (Wait received))) window dynamic h = cc
creates_from_names (what.Sync (Window (Create own comm base bytes unit model operations is))) window dynamic h =
    same_creation _ own window (some_pair_parts own window (created_state is) (created_state dynamic) h).0 (creates_one own comm base bytes unit model operations is)
creates_from_names (what.Sync (Window (Free own))) window dynamic h = absurd (not_freed own window dynamic h)
creates_from_names (what.Sync (Window (Attach own address bytes))) window dynamic h = cc
creates_from_names (what.Sync (Window (Detach own address))) window dynamic h = cc
creates_from_names (what.Sync (Epoch (Fence own assertions))) window dynamic h = cc
creates_from_names (what.Sync (Epoch (Post own origins assertions))) window dynamic h = cc
creates_from_names (what.Sync (Epoch (Start own targets assertions))) window dynamic h = cc
creates_from_names (what.Sync (Epoch (Complete own))) window dynamic h = cc
creates_from_names (what.Sync (Epoch (Expwait own))) window dynamic h = cc
creates_from_names (what.Sync (Epoch (Lock own target kind assertions))) window dynamic h = cc
creates_from_names (what.Sync (Epoch (Unlock own target))) window dynamic h = cc
creates_from_names (what.Sync (Epoch (LockAll own assertions))) window dynamic h = cc
creates_from_names (what.Sync (Epoch (UnlockAll own))) window dynamic h = cc
creates_from_names (what.Sync (Epoch (Flush own target))) window dynamic h = cc
creates_from_names (what.Sync (Epoch (FlushAll own))) window dynamic h = cc
creates_from_names (what.Sync (Epoch (FlushLocal own target))) window dynamic h = cc
creates_from_names (what.Sync (Epoch (FlushLocalAll own))) window dynamic h = cc
creates_from_names (what.Sync (Epoch (epoch.Sync own))) window dynamic h = cc
creates_from_names (what.Sync (Moving (Bcast root bytes comm))) window dynamic h = cc
creates_from_names (what.Sync (Moving (Scatter root bytes comm))) window dynamic h = cc
creates_from_names (what.Sync (Moving (Gather root bytes comm))) window dynamic h = cc
creates_from_names (what.Sync (Moving (Reduce root bytes comm))) window dynamic h = cc
creates_from_names (what.Sync (Moving (Allreduce bytes comm))) window dynamic h = cc
creates_from_names (what.Sync (Moving (Allgather bytes comm))) window dynamic h = cc
creates_from_names (what.Sync (Moving (Alltoall bytes comm))) window dynamic h = cc
creates_from_names (what.Rma access) window dynamic h = cc
creates_from_names (what.Local access) window dynamic h = cc

pub creates_from_created : (does : What) (window : List ℕ) (attributes : WindowAttributes) → created does ≡ Some (window, attributes) → CreatesWith does window
creates_from_created (what.Sync (Frame (Comm comm ranks))) window attributes h = cc
creates_from_created (what.Sync (Frame (Barrier comm))) window attributes h = cc
creates_from_created (what.Sync (Message (Send to tag comm))) window attributes h = cc
creates_from_created (what.Sync (Message (Recv from tag comm))) window attributes h = cc
creates_from_created (what.Sync (Message (Isend to tag comm))) window attributes h = cc
creates_from_created (what.Sync (Message (Irecv comm))) window attributes h = cc
creates_from_created (what.Sync (Message (Wait received))) window attributes h = cc
creates_from_created (what.Sync (Window (Create own comm base bytes unit model operations is))) window attributes h =
    same_creation _ own window (some_pair_parts own window (record { comm = comm; model = model; ops = operations; dynamic = is }) attributes h).0 (creates_one own comm base bytes unit model operations is)
creates_from_created (what.Sync (Window (Free own))) window attributes h = cc
creates_from_created (what.Sync (Window (Attach own address bytes))) window attributes h = cc
creates_from_created (what.Sync (Window (Detach own address))) window attributes h = cc
creates_from_created (what.Sync (Epoch (Fence own assertions))) window attributes h = cc
creates_from_created (what.Sync (Epoch (Post own origins assertions))) window attributes h = cc
creates_from_created (what.Sync (Epoch (Start own targets assertions))) window attributes h = cc
creates_from_created (what.Sync (Epoch (Complete own))) window attributes h = cc
creates_from_created (what.Sync (Epoch (Expwait own))) window attributes h = cc
creates_from_created (what.Sync (Epoch (Lock own target kind assertions))) window attributes h = cc
creates_from_created (what.Sync (Epoch (Unlock own target))) window attributes h = cc
creates_from_created (what.Sync (Epoch (LockAll own assertions))) window attributes h = cc
creates_from_created (what.Sync (Epoch (UnlockAll own))) window attributes h = cc
creates_from_created (what.Sync (Epoch (Flush own target))) window attributes h = cc
creates_from_created (what.Sync (Epoch (FlushAll own))) window attributes h = cc
creates_from_created (what.Sync (Epoch (FlushLocal own target))) window attributes h = cc
creates_from_created (what.Sync (Epoch (FlushLocalAll own))) window attributes h = cc
creates_from_created (what.Sync (Epoch (epoch.Sync own))) window attributes h = cc
creates_from_created (what.Sync (Moving (Bcast root bytes comm))) window attributes h = cc
creates_from_created (what.Sync (Moving (Scatter root bytes comm))) window attributes h = cc
creates_from_created (what.Sync (Moving (Gather root bytes comm))) window attributes h = cc
creates_from_created (what.Sync (Moving (Reduce root bytes comm))) window attributes h = cc
creates_from_created (what.Sync (Moving (Allreduce bytes comm))) window attributes h = cc
creates_from_created (what.Sync (Moving (Allgather bytes comm))) window attributes h = cc
creates_from_created (what.Sync (Moving (Alltoall bytes comm))) window attributes h = cc
creates_from_created (what.Rma access) window attributes h = cc
creates_from_created (what.Local access) window attributes h = cc

pub creates_from_arguments : (does : What) (window : List ℕ) (place : ℕ) → arguments_of place does ≡ Creation window → CreatesWith does window
creates_from_arguments (what.Sync (Frame (Comm comm ranks))) window place h = cc
creates_from_arguments (what.Sync (Frame (Barrier comm))) window place h = cc
creates_from_arguments (what.Sync (Message (Send to tag comm))) window place h = cc
creates_from_arguments (what.Sync (Message (Recv from tag comm))) window place h = cc
creates_from_arguments (what.Sync (Message (Isend to tag comm))) window place h = cc
creates_from_arguments (what.Sync (Message (Irecv comm))) window place h = cc
creates_from_arguments (what.Sync (Message (Wait received))) window place h = cc
creates_from_arguments (what.Sync (Window (Create own comm base bytes unit model operations is))) window place h = let same : own ≡ window = cc in same_creation _ own window same (creates_one own comm base bytes unit model operations is)
creates_from_arguments (what.Sync (Window (Free own))) window place h = cc
creates_from_arguments (what.Sync (Window (Attach own address bytes))) window place h = cc
creates_from_arguments (what.Sync (Window (Detach own address))) window place h = cc
creates_from_arguments (what.Sync (Epoch (Fence own assertions))) window place h = cc
creates_from_arguments (what.Sync (Epoch (Post own origins assertions))) window place h = cc
creates_from_arguments (what.Sync (Epoch (Start own targets assertions))) window place h = cc
creates_from_arguments (what.Sync (Epoch (Complete own))) window place h = cc
creates_from_arguments (what.Sync (Epoch (Expwait own))) window place h = cc
creates_from_arguments (what.Sync (Epoch (Lock own target kind assertions))) window place h = cc
creates_from_arguments (what.Sync (Epoch (Unlock own target))) window place h = cc
creates_from_arguments (what.Sync (Epoch (LockAll own assertions))) window place h = cc
creates_from_arguments (what.Sync (Epoch (UnlockAll own))) window place h = cc
creates_from_arguments (what.Sync (Epoch (Flush own target))) window place h = cc
creates_from_arguments (what.Sync (Epoch (FlushAll own))) window place h = cc
creates_from_arguments (what.Sync (Epoch (FlushLocal own target))) window place h = cc
creates_from_arguments (what.Sync (Epoch (FlushLocalAll own))) window place h = cc
creates_from_arguments (what.Sync (Epoch (epoch.Sync own))) window place h = cc
creates_from_arguments (what.Sync (Moving (Bcast root bytes comm))) window place h = cc
creates_from_arguments (what.Sync (Moving (Scatter root bytes comm))) window place h = cc
creates_from_arguments (what.Sync (Moving (Gather root bytes comm))) window place h = cc
creates_from_arguments (what.Sync (Moving (Reduce root bytes comm))) window place h = cc
creates_from_arguments (what.Sync (Moving (Allreduce bytes comm))) window place h = cc
creates_from_arguments (what.Sync (Moving (Allgather bytes comm))) window place h = cc
creates_from_arguments (what.Sync (Moving (Alltoall bytes comm))) window place h = cc
creates_from_arguments (what.Rma access) window place h = cc
creates_from_arguments (what.Local access) window place h = cc

pub creates_from_creation : (does : What) (rank : Rank) (number : ℕ) (creation : CreationOf) → creation_of rank number does ≡ Some creation → CreatesWith does creation.name × (creation.rank ≡ rank)
creates_from_creation (what.Sync (Frame (Comm comm ranks))) rank number creation h = cc
creates_from_creation (what.Sync (Frame (Barrier comm))) rank number creation h = cc
creates_from_creation (what.Sync (Message (Send to tag comm))) rank number creation h = cc
creates_from_creation (what.Sync (Message (Recv from tag comm))) rank number creation h = cc
creates_from_creation (what.Sync (Message (Isend to tag comm))) rank number creation h = cc
creates_from_creation (what.Sync (Message (Irecv comm))) rank number creation h = cc
creates_from_creation (what.Sync (Message (Wait received))) rank number creation h = cc
creates_from_creation (what.Sync (Window (Create own comm base bytes unit model operations is))) rank number creation h =
    let made : CreationOf = record { rank = rank; name = own; model = model; ops = operations; dynamic = is; part = part_of_call base bytes unit is number } in
    let same : made ≡ creation = cc in
    (same_creation _ own creation.name (ap (λ (c : CreationOf). c.name) same) (creates_one own comm base bytes unit model operations is), sym (ap (λ (c : CreationOf). c.rank) same))
creates_from_creation (what.Sync (Window (Free own))) rank number creation h = cc
creates_from_creation (what.Sync (Window (Attach own address bytes))) rank number creation h = cc
creates_from_creation (what.Sync (Window (Detach own address))) rank number creation h = cc
creates_from_creation (what.Sync (Epoch (Fence own assertions))) rank number creation h = cc
creates_from_creation (what.Sync (Epoch (Post own origins assertions))) rank number creation h = cc
creates_from_creation (what.Sync (Epoch (Start own targets assertions))) rank number creation h = cc
creates_from_creation (what.Sync (Epoch (Complete own))) rank number creation h = cc
creates_from_creation (what.Sync (Epoch (Expwait own))) rank number creation h = cc
creates_from_creation (what.Sync (Epoch (Lock own target kind assertions))) rank number creation h = cc
creates_from_creation (what.Sync (Epoch (Unlock own target))) rank number creation h = cc
creates_from_creation (what.Sync (Epoch (LockAll own assertions))) rank number creation h = cc
creates_from_creation (what.Sync (Epoch (UnlockAll own))) rank number creation h = cc
creates_from_creation (what.Sync (Epoch (Flush own target))) rank number creation h = cc
creates_from_creation (what.Sync (Epoch (FlushAll own))) rank number creation h = cc
creates_from_creation (what.Sync (Epoch (FlushLocal own target))) rank number creation h = cc
creates_from_creation (what.Sync (Epoch (FlushLocalAll own))) rank number creation h = cc
creates_from_creation (what.Sync (Epoch (epoch.Sync own))) rank number creation h = cc
creates_from_creation (what.Sync (Moving (Bcast root bytes comm))) rank number creation h = cc
creates_from_creation (what.Sync (Moving (Scatter root bytes comm))) rank number creation h = cc
creates_from_creation (what.Sync (Moving (Gather root bytes comm))) rank number creation h = cc
creates_from_creation (what.Sync (Moving (Reduce root bytes comm))) rank number creation h = cc
creates_from_creation (what.Sync (Moving (Allreduce bytes comm))) rank number creation h = cc
creates_from_creation (what.Sync (Moving (Allgather bytes comm))) rank number creation h = cc
creates_from_creation (what.Sync (Moving (Alltoall bytes comm))) rank number creation h = cc
creates_from_creation (what.Rma access) rank number creation h = cc
creates_from_creation (what.Local access) rank number creation h = cc
