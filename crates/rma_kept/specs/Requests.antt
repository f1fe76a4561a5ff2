-- The requests of the calls of a rank, by their numbers (MPI 4.0, "Point-to-Point Communication").
use Rattle.std.specs.Prelude.{◌≡◌, ℕ, Bool, true, false, not, ◌&&◌, List, count_by, Option, Some, None, is_some}
use Rattle.rma_call.specs.Call.{Call}
use Rattle.rma_call.specs.declared.message.MessageCall.TheVariants.{Irecv, Isend, Wait}
use Rattle.rma_call.specs.declared.message.Received.{Received}
use Rattle.rma_call.specs.declared.what.What.{What}
use Rattle.rma_call.specs.declared.what.What.TheVariants.{Rma, Sync}
use Rattle.rma_call.specs.declared.what.SyncCall.TheVariants.{Message}

-- whether it waits for a request
abbrev pub waits : What → Bool
waits (Sync (Message (Wait received))) = true
waits _ = false

-- whether it begins a receive
abbrev pub receives : What → Bool
receives (Sync (Message (Irecv comm))) = true
receives _ = false

-- whether it has a request always: a nonblocking message, or a wait
abbrev pub has_request : What → Bool
has_request (Sync (Message (Isend to tag comm))) = true
has_request (Sync (Message (Irecv comm))) = true
has_request (Sync (Message (Wait received))) = true
has_request _ = false

-- whether it may make a request: a nonblocking message, or an access
abbrev pub may_make : What → Bool
may_make (Sync (Message (Isend to tag comm))) = true
may_make (Sync (Message (Irecv comm))) = true
may_make (Rma access) = true
may_make _ = false

-- the source and the tag of the message for which it waited, if one came
abbrev pub received_by : What → Option Received
received_by (Sync (Message (Wait received))) = received
received_by _ = None

-- the call makes the request of this number
abbrev pub Makes : ℕ → Call → Type 0
Makes number call = (waits call.what ≡ false) × (call.request ≡ Some number)

-- the call waits for the request of this number
abbrev pub Awaits : ℕ → Call → Type 0
Awaits number call = (waits call.what ≡ true) × (call.request ≡ Some number)

-- whether the call makes a request
abbrev pub makes_one : Call → Bool
makes_one call = not (waits call.what) && is_some call.request

-- how many requests some calls make
abbrev pub made_in : List Call → ℕ
made_in calls = count_by makes_one calls
