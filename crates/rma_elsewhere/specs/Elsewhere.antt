-- The same call elsewhere: with other numbers and other names (MPI 4.0, "One-Sided Communications", "Point-to-Point Communication", "Collective Communication").
use Rattle.std.specs.Prelude.{◌≡◌, ℕ, Bool, false, List, [], ◌∷◌, Option, None, Some, is_some}
use Rattle.std.specs.Option.{option_or}
use Rattle.rma_call.specs.declared.epoch.EpochCall.{EpochCall}
use Rattle.rma_call.specs.declared.epoch.EpochCall.TheVariants.{Fence, Post, Start, Complete, Expwait, Lock, Unlock, LockAll, UnlockAll, Flush, FlushAll, FlushLocal, FlushLocalAll}
use Rattle.rma_call.specs.declared.epoch.EpochCall.TheVariants as epoch
use Rattle.rma_call.specs.declared.frame.FrameCall.{FrameCall}
use Rattle.rma_call.specs.declared.frame.FrameCall.TheVariants.{Comm, Barrier}
use Rattle.rma_call.specs.declared.message.MessageCall.{MessageCall}
use Rattle.rma_call.specs.declared.message.MessageCall.TheVariants.{Send, Recv, Isend, Irecv, Wait}
use Rattle.rma_call.specs.declared.moving.MovingCall.{MovingCall}
use Rattle.rma_call.specs.declared.moving.MovingCall.TheVariants.{Bcast, Scatter, Gather, Reduce, Allreduce, Allgather, Alltoall}
use Rattle.rma_call.specs.declared.window.WindowCall.{WindowCall}
use Rattle.rma_call.specs.declared.window.WindowCall.TheVariants.{Attach, Detach}
use Rattle.rma_call.specs.declared.what.SyncCall.{SyncCall}
use Rattle.rma_call.specs.declared.what.SyncCall.TheVariants as sync
use Rattle.rma_call.specs.declared.what.What.{What}
use Rattle.rma_call.specs.declared.what.What.TheVariants as what
use Rattle.rma_form.specs.declared.event.Event.{Event}
use Rattle.rma_form.specs.declared.event.Event.TheVariants.{Call, Rma, Local}
use Rattle.rma_buffer.specs.Elsewhere.{line_at, local_at}
use Rattle.rma_known.specs.Elsewhere.{Details}
use Rattle.rma_type.specs.Table.{Table}
use Rattle.rma_base.specs.declared.version.Version.{Version}
use Rattle.rma_form.specs.Lines.{states}
use Rattle.rma_judge.specs.inside.CallEvent.{IsCallOf}

-- ---- calls with other numbers and another name; the same, where they are none of theirs

-- a communicator of another name, and a barrier on another one
abbrev pub frame_at : FrameCall → List ℕ → Option (List ℕ) → FrameCall
frame_at (Comm comm ranks) [] (Some name) = Comm name ranks
frame_at (Barrier comm) [] (Some name) = Barrier name
frame_at call _ _ = call

-- a message with another rank and another tag, on another communicator; the message of a request that is complete
abbrev pub message_at : MessageCall → List ℕ → Option (List ℕ) → MessageCall
message_at (Send to tag comm) (rank ∷ number ∷ []) (Some name) = Send (record { 0 = rank }) number name
message_at (Recv source tag comm) (rank ∷ number ∷ []) (Some name) = Recv (record { 0 = rank }) number name
message_at (Isend to tag comm) (rank ∷ number ∷ []) (Some name) = Isend (record { 0 = rank }) number name
message_at (Irecv comm) [] (Some name) = Irecv name
message_at (Wait received) (rank ∷ number ∷ []) None = Wait (Some (record { from = record { 0 = rank }; tag = number }))
message_at call _ _ = call

-- memory of another window
abbrev pub window_at : WindowCall → List ℕ → Option (List ℕ) → WindowCall
window_at (Attach window address size) (other ∷ []) (Some name) = Attach name other size
window_at (Detach window address) (other ∷ []) (Some name) = Detach name other
window_at call _ _ = call

-- an epoch of another window, for another target, or for a group that has another rank alone
abbrev pub epoch_at : EpochCall → List ℕ → Option (List ℕ) → EpochCall
epoch_at (Fence window assertions) [] (Some name) = Fence name assertions
epoch_at (Post window origins assertions) [] (Some name) = Post name origins assertions
epoch_at (Start window targets assertions) [] (Some name) = Start name targets assertions
epoch_at (Post window origins assertions) (rank ∷ []) (Some name) = Post name (rank ∷ []) assertions
epoch_at (Start window targets assertions) (rank ∷ []) (Some name) = Start name (rank ∷ []) assertions
epoch_at (Complete window) [] (Some name) = Complete name
epoch_at (Expwait window) [] (Some name) = Expwait name
epoch_at (Lock window target kind assertions) (rank ∷ []) (Some name) = Lock name (record { 0 = rank }) kind assertions
epoch_at (Unlock window target) (rank ∷ []) (Some name) = Unlock name (record { 0 = rank })
epoch_at (LockAll window assertions) [] (Some name) = LockAll name assertions
epoch_at (UnlockAll window) [] (Some name) = UnlockAll name
epoch_at (Flush window target) (rank ∷ []) (Some name) = Flush name (record { 0 = rank })
epoch_at (FlushAll window) [] (Some name) = FlushAll name
epoch_at (FlushLocal window target) (rank ∷ []) (Some name) = FlushLocal name (record { 0 = rank })
epoch_at (FlushLocalAll window) [] (Some name) = FlushLocalAll name
epoch_at (epoch.Sync window) [] (Some name) = epoch.Sync name
epoch_at call _ _ = call

-- a collective of another root and other bytes, on another communicator
abbrev pub moving_at : MovingCall → List ℕ → Option (List ℕ) → MovingCall
moving_at (Bcast root bytes comm) (rank ∷ number ∷ []) (Some name) = Bcast (record { 0 = rank }) number name
moving_at (Scatter root bytes comm) (rank ∷ number ∷ []) (Some name) = Scatter (record { 0 = rank }) number name
moving_at (Gather root bytes comm) (rank ∷ number ∷ []) (Some name) = Gather (record { 0 = rank }) number name
moving_at (Reduce root bytes comm) (rank ∷ number ∷ []) (Some name) = Reduce (record { 0 = rank }) number name
moving_at (Allreduce bytes comm) (number ∷ []) (Some name) = Allreduce number name
moving_at (Allgather bytes comm) (number ∷ []) (Some name) = Allgather number name
moving_at (Alltoall bytes comm) (number ∷ []) (Some name) = Alltoall number name
moving_at call _ _ = call

-- a call that accesses no memory
abbrev pub sync_at : SyncCall → List ℕ → Option (List ℕ) → SyncCall
sync_at (sync.Frame call) numbers name = sync.Frame (frame_at call numbers name)
sync_at (sync.Message call) numbers name = sync.Message (message_at call numbers name)
sync_at (sync.Window call) numbers name = sync.Window (window_at call numbers name)
sync_at (sync.Epoch call) numbers name = sync.Epoch (epoch_at call numbers name)
sync_at (sync.Moving call) numbers name = sync.Moving (moving_at call numbers name)

-- the request of a call that has one
abbrev pub request_at : Option (List ℕ) → Option (List ℕ) → Option (List ℕ)
request_at None other = None
request_at (Some own) other = option_or other (Some own)

-- the event of a call, where these particulars say
abbrev pub event_at : Event → Details → Event
event_at (Rma line request) to = Rma (line_at line to.numbers) request
event_at (Local line) to = Local (local_at line to.numbers)
event_at (Call call request) to = Call (sync_at call to.numbers to.name) (request_at request to.request)
event_at event to = event

-- ---- what is stated, and what is done elsewhere

-- the words state the event in this version, without a site
abbrev pub IsStatedBy : Version → List ℕ → Event → Type 0
IsStatedBy version words event = states version words (record { event = event; site = None })

-- Whatever call this does that is where some numbers say, and has a request or none: where other particulars say it is one that does
-- that, with this request.
abbrev pub DoesElsewhere : What → Bool → List ℕ → Details → What → Option (List ℕ) → Type 0
DoesElsewhere what requests from to moved request =
    (types : Table) (event : Event) (name own : Option (List ℕ)) → event_at event (record { numbers = from; name = name; request = own }) ≡ event → is_some own ≡ requests
    → IsCallOf types what own event → IsCallOf types moved request (event_at event to)

-- neither a call nor its particulars have a request
abbrev pub MakesNone : Bool → Details → Type 0
MakesNone requests to = (requests ≡ false) × (to.request ≡ None)

-- a call that accesses no memory is this elsewhere
abbrev pub IsSyncAt : What → List ℕ → Option (List ℕ) → SyncCall → Type 0
IsSyncAt does numbers name moved = (call : SyncCall) × (does ≡ what.Sync call) × (moved ≡ sync_at call numbers name)
