-- What the events of a log say of names and ranks (docs/FORMAT.md). A form of line has one row here, and is named in no other
-- definition of this crate.
use Rattle.std.specs.Prelude.{ℕ, Bool, true, false, List, Option, Some, None, is_some, option_map}
use Rattle.rma_base.specs.declared.version.Version.{Version}
use Rattle.rma_base.specs.declared.rank.Rank.{Rank}
use Rattle.rma_call.specs.declared.what.SyncCall.TheVariants.{Frame, Message, Window, Epoch, Moving}
use Rattle.rma_call.specs.declared.frame.FrameCall.TheVariants.{Comm, Barrier}
use Rattle.rma_call.specs.declared.message.MessageCall.TheVariants.{Send, Recv, Isend, Irecv, Wait}
use Rattle.rma_call.specs.declared.window.WindowCall.TheVariants.{Create, Free, Attach, Detach}
use Rattle.rma_call.specs.declared.epoch.EpochCall.TheVariants.{Fence, Post, Start, Complete, Expwait, Lock, Unlock, LockAll, UnlockAll, Flush, FlushAll, FlushLocal, FlushLocalAll}
use Rattle.rma_call.specs.declared.epoch.EpochCall.TheVariants as epoch
use Rattle.rma_call.specs.declared.moving.MovingCall.TheVariants.{Bcast, Scatter, Gather, Reduce, Allreduce, Allgather, Alltoall}
use Rattle.rma_form.specs.declared.event.Event.{Event}
use Rattle.rma_form.specs.declared.event.Event.TheVariants.{Header, End, Call, Datatype, Rma, Local}
use Rattle.rma_judge.specs.declared.names.WindowState.{WindowState}
use Rattle.rma_judge.specs.declared.names.WindowState.TheVariants.{Fixed, Dynamic, Freed}

-- the event begins the log
abbrev pub is_header : Event → Bool
is_header (Header version rank size) = true
is_header _ = false

-- the version of the format that the event names
abbrev pub named_version : Event → Option Version
named_version (Header version rank size) = Some version
named_version _ = None

-- the event ends the log
abbrev pub is_end : Event → Bool
is_end End = true
is_end _ = false

-- What an event says of names and ranks: the communicator and the window that have to be there; the communicator that it
-- declares, with its members; the window that it creates; the window of which it makes something, and what; the request that
-- it makes, and whether that is a receive; the request that it waits for, and whether a message came; the ranks that it
-- names, in a group or by itself; the memory of a window, by its address and its number of bytes; the root of a collective,
-- with its communicator; and the window to which memory is attached, or from which it is detached.
pub record Attributes : Type 0 where
  pub needed_comm : Option (List ℕ)
  pub needed_window : Option (List ℕ)
  pub declared : Option (List ℕ × List ℕ)
  pub created : Option (List ℕ)
  pub window : Option (List ℕ × WindowState)
  pub made : Option (List ℕ × Bool)
  pub awaited : Option (List ℕ × Bool)
  pub group : Option (List ℕ)
  pub rank : Option ℕ
  pub memory : Option (ℕ × ℕ)
  pub root : Option (List ℕ × ℕ)
  pub attached : Option (List ℕ)

-- nothing is said of names and ranks
abbrev pub no_attributes : Attributes
no_attributes = record {
  needed_comm = None;
  needed_window = None;
  declared = None;
  created = None;
  window = None;
  made = None;
  awaited = None;
  group = None;
  rank = None;
  memory = None;
  root = None;
  attached = None;
}

-- a request, where it has a name, with a word on it
abbrev pub request_that : Bool → Option (List ℕ) → Option (List ℕ × Bool)
request_that word request = option_map (λ name. (name, word)) request

-- a call on a communicator
abbrev pub on_comm : List ℕ → Attributes
on_comm comm = record no_attributes { needed_comm = Some comm }

-- a message on a communicator, to or from a rank
abbrev pub with_peer : List ℕ → ℕ → Attributes
with_peer comm rank = record no_attributes { needed_comm = Some comm; rank = Some rank }

-- a collective with a root
abbrev pub with_root : List ℕ → ℕ → Attributes
with_root comm root = record no_attributes { needed_comm = Some comm; rank = Some root; root = Some (comm, root) }

-- a call on a window
abbrev pub on_window : List ℕ → Attributes
on_window window = record no_attributes { needed_window = Some window }

-- a call on a window, for one rank
abbrev pub with_target : List ℕ → ℕ → Attributes
with_target window target = record no_attributes { needed_window = Some window; rank = Some target }

-- a call on a window, for some ranks
abbrev pub with_group : List ℕ → List ℕ → Attributes
with_group window ranks = record no_attributes { needed_window = Some window; group = Some ranks }

-- a call that accesses the part of a target, if it has one
abbrev pub with_access : List ℕ → Option Rank → Option (List ℕ) → Attributes
with_access window target request = record (on_window window) { rank = option_map (λ (rank : Rank). rank.0) target; made = request_that false request }

-- how a window is when it is created
abbrev pub created_state : Bool → WindowState
created_state false = Fixed
created_state true = Dynamic

-- what each event says
abbrev pub attributes_of : Event → Attributes
attributes_of (Call (Frame (Comm comm ranks)) request) = record no_attributes { declared = Some (comm, ranks); group = Some ranks }
attributes_of (Call (Frame (Barrier comm)) request) = on_comm comm
attributes_of (Call (Message (Send to tag comm)) request) = with_peer comm to.0
attributes_of (Call (Message (Recv from tag comm)) request) = with_peer comm from.0
attributes_of (Call (Message (Isend to tag comm)) request) = record (with_peer comm to.0) { made = request_that false request }
attributes_of (Call (Message (Irecv comm)) request) = record (on_comm comm) { made = request_that true request }
attributes_of (Call (Message (Wait received)) request) = record no_attributes {
  awaited = request_that (is_some received) request;
  rank = option_map (λ it. it.from.0) received;
}
attributes_of (Call (Window (Create window comm base bytes unit model operations dynamic)) request) = record (on_comm comm) {
  created = Some window;
  window = Some (window, created_state dynamic);
  memory = Some (base, bytes);
}
attributes_of (Call (Window (Free window)) request) = record (on_window window) { window = Some (window, Freed) }
attributes_of (Call (Window (Attach window address bytes)) request) = record (on_window window) { memory = Some (address, bytes); attached = Some window }
attributes_of (Call (Window (Detach window address)) request) = record (on_window window) { attached = Some window }
attributes_of (Call (Epoch (Fence window assertions)) request) = on_window window
attributes_of (Call (Epoch (Post window origins assertions)) request) = with_group window origins
attributes_of (Call (Epoch (Start window targets assertions)) request) = with_group window targets
attributes_of (Call (Epoch (Complete window)) request) = on_window window
attributes_of (Call (Epoch (Expwait window)) request) = on_window window
attributes_of (Call (Epoch (Lock window target kind assertions)) request) = with_target window target.0
attributes_of (Call (Epoch (Unlock window target)) request) = with_target window target.0
attributes_of (Call (Epoch (LockAll window assertions)) request) = on_window window
attributes_of (Call (Epoch (UnlockAll window)) request) = on_window window
attributes_of (Call (Epoch (Flush window target)) request) = with_target window target.0
attributes_of (Call (Epoch (FlushAll window)) request) = on_window window
attributes_of (Call (Epoch (FlushLocal window target)) request) = with_target window target.0
attributes_of (Call (Epoch (FlushLocalAll window)) request) = on_window window
attributes_of (Call (Epoch (epoch.Sync window)) request) = on_window window
attributes_of (Call (Moving (Bcast root bytes comm)) request) = with_root comm root.0
attributes_of (Call (Moving (Scatter root bytes comm)) request) = with_root comm root.0
attributes_of (Call (Moving (Gather root bytes comm)) request) = with_root comm root.0
attributes_of (Call (Moving (Reduce root bytes comm)) request) = with_root comm root.0
attributes_of (Call (Moving (Allreduce bytes comm)) request) = on_comm comm
attributes_of (Call (Moving (Allgather bytes comm)) request) = on_comm comm
attributes_of (Call (Moving (Alltoall bytes comm)) request) = on_comm comm
attributes_of (Header version rank size) = no_attributes
attributes_of End = no_attributes
attributes_of (Datatype line) = no_attributes
attributes_of (Rma line request) = with_access line.window line.target request
attributes_of (Local line) = no_attributes
