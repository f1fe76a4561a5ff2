-- What calls say of their requests is what their lines say.
use Rattle.std.proofs.Common.{◌≡◌, ℕ, Bool, true, false, List, Option, Some, None, IsSome, is_some, option_map, refl, ap, subst, ◌∙◌, ◌⊎◌, inl, inr}
use Rattle.std.proofs.lemmas.Option.{some_pair_parts}
use Rattle.rma_buffer.specs.Calls.{local_call_of, rma_call_of}
use Rattle.rma_buffer.specs.Operands.{operand_of, operands_of}
use Rattle.rma_buffer.specs.declared.operand.Operand.{Operand}
use Rattle.rma_buffer.specs.declared.operand.Operands.{Operands}
use Rattle.rma_call.specs.declared.epoch.EpochCall.TheVariants.{Fence, Post, Start, Complete, Expwait, Lock, Unlock, LockAll, UnlockAll, Flush, FlushAll, FlushLocal, FlushLocalAll}
use Rattle.rma_call.specs.declared.epoch.EpochCall.TheVariants as epoch
use Rattle.rma_call.specs.declared.frame.FrameCall.TheVariants.{Comm, Barrier}
use Rattle.rma_call.specs.declared.message.MessageCall.TheVariants.{Send, Recv, Isend, Irecv, Wait}
use Rattle.rma_call.specs.declared.moving.MovingCall.TheVariants.{Bcast, Scatter, Gather, Reduce, Allreduce, Allgather, Alltoall}
use Rattle.rma_call.specs.declared.what.SyncCall.{SyncCall}
use Rattle.rma_call.specs.declared.what.SyncCall.TheVariants.{Frame, Message, Window, Epoch, Moving}
use Rattle.rma_call.specs.declared.what.What.{What}
use Rattle.rma_call.specs.declared.what.What.TheVariants as what
use Rattle.rma_call.specs.declared.window.WindowCall.TheVariants.{Create, Free, Attach, Detach}
use Rattle.rma_call.specs.declared.rma.RmaCall.{RmaCall}
use Rattle.rma_form.specs.declared.event.Event.{Event}
use Rattle.rma_form.specs.declared.event.rma_line.RmaLine.{RmaLine}
use Rattle.rma_form.specs.declared.event.Event.TheVariants.{Header, End, Call, Datatype, Rma, Local}
use Rattle.rma_judge.specs.Calls.{what_in}
use Rattle.rma_judge.specs.Naming.{Attributes, attributes_of}
use Rattle.std.proofs.lemmas.Bool.{false≢true}
use Rattle.rma_type.specs.Table.{Table}
use Rattle.rma_kept.specs.Requests.{has_request, may_make, received_by, receives, waits}

-- what is said of a request: its name, and a word on it
abbrev pub request_of : List ℕ → Bool → Option (List ℕ × Bool)
request_of name word = Some (name, word)

-- an event that makes a request is no wait, and one that waits makes none; the words on both are those of the call
pub record SaysRequest (it : Attributes) (does : What) : Type 0 where
  pub made : (name : List ℕ) (word : Bool) → it.made ≡ request_of name word → (waits does ≡ false) × (receives does ≡ word) × (it.awaited ≡ None) × (may_make does ≡ true)
  pub awaited : (name : List ℕ) (word : Bool) → it.awaited ≡ request_of name word → (waits does ≡ true) × (is_some (received_by does) ≡ word) × (it.made ≡ None)

sync_made : (call : SyncCall) (request : Option (List ℕ)) (name : List ℕ) (word : Bool) → (attributes_of (Call call request)).made ≡ request_of name word
    → (waits (what.Sync call) ≡ false) × (receives (what.Sync call) ≡ word) × ((attributes_of (Call call request)).awaited ≡ None) × (may_make (what.Sync call) ≡ true)
sync_made (Frame (Comm comm ranks)) request name word h = cc
sync_made (Frame (Barrier comm)) request name word h = cc
sync_made (Message (Send to tag comm)) request name word h = cc
sync_made (Message (Recv from tag comm)) request name word h = cc
sync_made (Message (Isend to tag comm)) None name word h = cc
sync_made (Message (Isend to tag comm)) (Some own) name word h = (refl, (some_pair_parts own name false word h).1, refl, refl)
sync_made (Message (Irecv comm)) None name word h = cc
sync_made (Message (Irecv comm)) (Some own) name word h = (refl, (some_pair_parts own name true word h).1, refl, refl)
sync_made (Message (Wait received)) request name word h = cc
sync_made (Window (Create own comm base bytes unit model operations is)) request name word h = cc
sync_made (Window (Free own)) request name word h = cc
sync_made (Window (Attach own address bytes)) request name word h = cc
sync_made (Window (Detach own address)) request name word h = cc
sync_made (Epoch (Fence own assertions)) request name word h = cc
sync_made (Epoch (Post own origins assertions)) request name word h = cc
sync_made (Epoch (Start own targets assertions)) request name word h = cc
sync_made (Epoch (Complete own)) request name word h = cc
sync_made (Epoch (Expwait own)) request name word h = cc
sync_made (Epoch (Lock own target kind assertions)) request name word h = cc
sync_made (Epoch (Unlock own target)) request name word h = cc
sync_made (Epoch (LockAll own assertions)) request name word h = cc
sync_made (Epoch (UnlockAll own)) request name word h = cc
sync_made (Epoch (Flush own target)) request name word h = cc
sync_made (Epoch (FlushAll own)) request name word h = cc
sync_made (Epoch (FlushLocal own target)) request name word h = cc
sync_made (Epoch (FlushLocalAll own)) request name word h = cc
sync_made (Epoch (epoch.Sync own)) request name word h = cc
sync_made (Moving (Bcast root bytes comm)) request name word h = cc
sync_made (Moving (Scatter root bytes comm)) request name word h = cc
sync_made (Moving (Gather root bytes comm)) request name word h = cc
sync_made (Moving (Reduce root bytes comm)) request name word h = cc
sync_made (Moving (Allreduce bytes comm)) request name word h = cc
sync_made (Moving (Allgather bytes comm)) request name word h = cc
sync_made (Moving (Alltoall bytes comm)) request name word h = cc

sync_awaited : (call : SyncCall) (request : Option (List ℕ)) (name : List ℕ) (word : Bool) → (attributes_of (Call call request)).awaited ≡ request_of name word
    → (waits (what.Sync call) ≡ true) × (is_some (received_by (what.Sync call)) ≡ word) × ((attributes_of (Call call request)).made ≡ None)
sync_awaited (Frame (Comm comm ranks)) request name word h = cc
sync_awaited (Frame (Barrier comm)) request name word h = cc
sync_awaited (Message (Send to tag comm)) request name word h = cc
sync_awaited (Message (Recv from tag comm)) request name word h = cc
sync_awaited (Message (Isend to tag comm)) request name word h = cc
sync_awaited (Message (Irecv comm)) request name word h = cc
sync_awaited (Message (Wait received)) None name word h = cc
sync_awaited (Message (Wait received)) (Some own) name word h = (refl, (some_pair_parts own name (is_some received) word h).1, refl)
sync_awaited (Window (Create own comm base bytes unit model operations is)) request name word h = cc
sync_awaited (Window (Free own)) request name word h = cc
sync_awaited (Window (Attach own address bytes)) request name word h = cc
sync_awaited (Window (Detach own address)) request name word h = cc
sync_awaited (Epoch (Fence own assertions)) request name word h = cc
sync_awaited (Epoch (Post own origins assertions)) request name word h = cc
sync_awaited (Epoch (Start own targets assertions)) request name word h = cc
sync_awaited (Epoch (Complete own)) request name word h = cc
sync_awaited (Epoch (Expwait own)) request name word h = cc
sync_awaited (Epoch (Lock own target kind assertions)) request name word h = cc
sync_awaited (Epoch (Unlock own target)) request name word h = cc
sync_awaited (Epoch (LockAll own assertions)) request name word h = cc
sync_awaited (Epoch (UnlockAll own)) request name word h = cc
sync_awaited (Epoch (Flush own target)) request name word h = cc
sync_awaited (Epoch (FlushAll own)) request name word h = cc
sync_awaited (Epoch (FlushLocal own target)) request name word h = cc
sync_awaited (Epoch (FlushLocalAll own)) request name word h = cc
sync_awaited (Epoch (epoch.Sync own)) request name word h = cc
sync_awaited (Moving (Bcast root bytes comm)) request name word h = cc
sync_awaited (Moving (Scatter root bytes comm)) request name word h = cc
sync_awaited (Moving (Gather root bytes comm)) request name word h = cc
sync_awaited (Moving (Reduce root bytes comm)) request name word h = cc
sync_awaited (Moving (Allreduce bytes comm)) request name word h = cc
sync_awaited (Moving (Allgather bytes comm)) request name word h = cc
sync_awaited (Moving (Alltoall bytes comm)) request name word h = cc

sync_says : (call : SyncCall) (request : Option (List ℕ)) → SaysRequest (attributes_of (Call call request)) (what.Sync call)
sync_says call request = record { made = sync_made call request; awaited = sync_awaited call request }

rma_says : (line : RmaLine) (request : Option (List ℕ)) (access : RmaCall) → SaysRequest (attributes_of (Rma line request)) (what.Rma access)
rma_says line request access = record { made = made_by request; awaited = λ name word h. cc }
  where
    made_by : (request : Option (List ℕ)) (name : List ℕ) (word : Bool) → (attributes_of (Rma line request)).made ≡ request_of name word
        → (waits (what.Rma access) ≡ false) × (receives (what.Rma access) ≡ word) × ((attributes_of (Rma line request)).awaited ≡ None) × (may_make (what.Rma access) ≡ true)
    made_by None name word h = cc
    made_by (Some own) name word h = (refl, (some_pair_parts own name false word h).1, refl, refl)

-- the call of an event says of its request what the event says
pub request_says : (types : Table) (event : Event) (does : What) → what_in types event ≡ Some does → SaysRequest (attributes_of event) does
request_says types (Header version rank size) does is = let none : None ≡ Some does = is in cc none
request_says types End does is = let none : None ≡ Some does = is in cc none
request_says types (Datatype line) does is = let none : None ≡ Some does = is in cc none
request_says types (Call call request) does is = let same : what.Sync call ≡ does = cc in subst (SaysRequest (attributes_of (Call call request))) same (sync_says call request)
request_says types (Rma line request) does is = by (operands_of types.live line.access) is
  where
    by : (operands : Option Operands) → option_map (λ operands. what.Rma (rma_call_of types.origins line operands)) operands ≡ Some does → SaysRequest (attributes_of (Rma line request)) does
    by None is = cc
    by (Some operands) is =
        let same : what.Rma (rma_call_of types.origins line operands) ≡ does = cc in
        subst (SaysRequest (attributes_of (Rma line request))) same (rma_says line request (rma_call_of types.origins line operands))
request_says types (Local line) does is = record { made = λ name word h. cc; awaited = λ name word h. cc }

-- ---- calls that have a request always

-- the name of a request that stands beside the call of an event
abbrev pub named_request : Event → Option (List ℕ)
named_request (Call call request) = request
named_request (Rma line request) = request
named_request _ = None

-- whether the call of the event has a request always
abbrev pub event_has_request : Event → Bool
event_has_request (Call call request) = has_request (what.Sync call)
event_has_request _ = false

-- the event names a request under this name, which it makes or awaits
abbrev pub NamesRequest : Attributes → Type 0
NamesRequest it = (name : List ℕ) × (word : Bool) × ((it.made ≡ request_of name word) ⊎ (it.awaited ≡ request_of name word))

sync_asked : (call : SyncCall) (name : List ℕ) → has_request (what.Sync call) ≡ true → NamesRequest (attributes_of (Call call (Some name)))
sync_asked (Frame (Comm comm ranks)) name h = cc
sync_asked (Frame (Barrier comm)) name h = cc
sync_asked (Message (Send to tag comm)) name h = cc
sync_asked (Message (Recv from tag comm)) name h = cc
sync_asked (Message (Isend to tag comm)) name h = (name, false, inl refl)
sync_asked (Message (Irecv comm)) name h = (name, true, inl refl)
sync_asked (Message (Wait received)) name h = (name, is_some received, inr refl)
sync_asked (Window (Create own comm base bytes unit model operations is)) name h = cc
sync_asked (Window (Free own)) name h = cc
sync_asked (Window (Attach own address bytes)) name h = cc
sync_asked (Window (Detach own address)) name h = cc
sync_asked (Epoch (Fence own assertions)) name h = cc
sync_asked (Epoch (Post own origins assertions)) name h = cc
sync_asked (Epoch (Start own targets assertions)) name h = cc
sync_asked (Epoch (Complete own)) name h = cc
sync_asked (Epoch (Expwait own)) name h = cc
sync_asked (Epoch (Lock own target kind assertions)) name h = cc
sync_asked (Epoch (Unlock own target)) name h = cc
sync_asked (Epoch (LockAll own assertions)) name h = cc
sync_asked (Epoch (UnlockAll own)) name h = cc
sync_asked (Epoch (Flush own target)) name h = cc
sync_asked (Epoch (FlushAll own)) name h = cc
sync_asked (Epoch (FlushLocal own target)) name h = cc
sync_asked (Epoch (FlushLocalAll own)) name h = cc
sync_asked (Epoch (epoch.Sync own)) name h = cc
sync_asked (Moving (Bcast root bytes comm)) name h = cc
sync_asked (Moving (Scatter root bytes comm)) name h = cc
sync_asked (Moving (Gather root bytes comm)) name h = cc
sync_asked (Moving (Reduce root bytes comm)) name h = cc
sync_asked (Moving (Allreduce bytes comm)) name h = cc
sync_asked (Moving (Allgather bytes comm)) name h = cc
sync_asked (Moving (Alltoall bytes comm)) name h = cc

-- a call that has a request names one, where its event has a name for it
pub request_asked : (types : Table) (event : Event) (does : What) → what_in types event ≡ Some does → (event_has_request event ≡ true → IsSome (named_request event))
    → has_request does ≡ true → NamesRequest (attributes_of event)
request_asked types (Header version rank size) does is named has = let none : None ≡ Some does = is in cc none
request_asked types End does is named has = let none : None ≡ Some does = is in cc none
request_asked types (Datatype line) does is named has = let none : None ≡ Some does = is in cc none
request_asked types (Call call request) does is named has =
    let same : what.Sync call ≡ does = cc in
    let own : has_request (what.Sync call) ≡ true = ap has_request same ∙ has in
    by request (named own)
  where
    by : (request : Option (List ℕ)) → IsSome request → NamesRequest (attributes_of (Call call request))
    by None some = absurd (false≢true some)
    by (Some name) some = sync_asked call name (let same : what.Sync call ≡ does = cc in ap has_request same ∙ has)
request_asked types (Rma line request) does is named has = by (operands_of types.live line.access) is
  where
    by : (operands : Option Operands) → option_map (λ operands. what.Rma (rma_call_of types.origins line operands)) operands ≡ Some does → NamesRequest (attributes_of (Rma line request))
    by None is = cc
    by (Some operands) is =
        let same : what.Rma (rma_call_of types.origins line operands) ≡ does = cc in
        let wrong : false ≡ true = ap has_request same ∙ has in cc wrong
request_asked types (Local line) does is named has = by (operand_of types.live line.buffer) is
  where
    by : (memory : Option Operand) → option_map (λ memory. what.Local (local_call_of types.origins line.access memory)) memory ≡ Some does → NamesRequest (attributes_of (Local line))
    by None is = cc
    by (Some memory) is =
        let same : what.Local (local_call_of types.origins line.access memory) ≡ does = cc in
        let wrong : false ≡ true = ap has_request same ∙ has in cc wrong
