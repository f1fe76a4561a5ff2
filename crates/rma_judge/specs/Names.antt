-- What is known of a name after some events: what the last of them that speaks of it made of it.
use Rattle.std.specs.Prelude.{ℕ, zero, suc, ◌+◌, Bool, true, false, ◌||◌, nat_eq, nat_lt, List, [], ◌∷◌, Option, Some, None, is_some, option_map, unwrap_or, codes, if◌then◌else◌}
use Rattle.std.specs.Option.{option_or, option_map_or, option_and_then}
use Rattle.std.specs.Cmp.Lexicographic.{pointwise}
use Rattle.rma_base.specs.RankSet.{has_number}
use Rattle.rma_form.specs.declared.event.Event.{Event}
use Rattle.rma_judge.specs.Latest.{latest}
use Rattle.rma_judge.specs.Naming.{Attributes, attributes_of}
use Rattle.rma_judge.specs.declared.names.WindowState.{WindowState}
use Rattle.rma_judge.specs.declared.names.WindowState.TheVariants.{Fixed, Dynamic, Freed}
use Rattle.rma_judge.specs.declared.names.Pending.{Pending}

-- two names are the same
abbrev pub is_same : List ℕ → List ℕ → Bool
is_same name other = pointwise nat_eq name other

-- what is said of a name, where it is this one
abbrev pub of_name : {A : Type 0} → List ℕ → Option (List ℕ × A) → Option A
of_name name None = None
of_name name (Some (own, it)) = if is_same own name then Some it else None

-- ---- communicators

-- the communicator of all ranks
abbrev pub world : List ℕ
world = codes "world"

-- the members of a communicator, as the rank declared it
abbrev pub members : List Event → List ℕ → Option (List ℕ)
members events comm = latest (λ event. of_name comm (attributes_of event).declared) events

-- there is such a communicator: that of all ranks, and each that was declared
abbrev pub has_comm : List Event → List ℕ → Bool
has_comm events comm = is_same world comm || is_some (members events comm)

-- the rank is a member of the communicator: that of all ranks has each rank among so many logs
abbrev pub has_member : ℕ → List Event → List ℕ → ℕ → Bool
has_member logs events comm rank = option_map_or (has_number rank) (members events comm) (nat_lt rank logs)

-- ---- windows

-- what became of a window
abbrev pub window_state : List Event → List ℕ → Option WindowState
window_state events window = latest (λ event. of_name window (attributes_of event).window) events

-- some event created the window, or freed it, which good events do to one that is there: its name stays in use for ever
abbrev pub had_window : List Event → List ℕ → Bool
had_window events window = is_some (window_state events window)

-- a window in this state is there: it was created, and not freed
abbrev pub is_there : Option WindowState → Bool
is_there None = false
is_there (Some Fixed) = true
is_there (Some Dynamic) = true
is_there (Some Freed) = false

-- a window in this state has its memory from its creation on
abbrev pub is_fixed : Option WindowState → Bool
is_fixed None = false
is_fixed (Some Fixed) = true
is_fixed (Some Dynamic) = false
is_fixed (Some Freed) = false

-- ---- requests

-- how many requests an event makes
abbrev pub makes : Attributes → ℕ
makes it = if is_some it.made then 1 else 0

-- how many requests an event waits for
abbrev pub waits : Attributes → ℕ
waits it = if is_some it.awaited then 1 else 0

-- how many requests some events made
abbrev pub made_by : List Event → ℕ
made_by [] = 0
made_by (event ∷ events) = makes (attributes_of event) + made_by events

-- how many requests some events waited for
abbrev pub awaited_by : List Event → ℕ
awaited_by [] = 0
awaited_by (event ∷ events) = waits (attributes_of event) + awaited_by events

-- what an event makes of a request, where so many requests were made before it: it is pending, or it is completed
abbrev pub request_change : ℕ → Attributes → List ℕ → Option (Option Pending)
request_change before it name =
    option_or
    (option_map (λ receives. Some (record { ordinal = before + 1; receives = receives })) (of_name name it.made))
    (option_map (λ received. None) (of_name name it.awaited))

-- what the last of some events that speaks of a request made of it, where so many requests were made before them
abbrev pub request_state : ℕ → List Event → List ℕ → Option (Option Pending)
request_state before [] name = None
request_state before (event ∷ events) name =
    option_or (request_state (before + makes (attributes_of event)) events name) (request_change before (attributes_of event) name)

-- the request of a name that is pending
abbrev pub pending : List Event → List ℕ → Option Pending
pending events name = unwrap_or (request_state 0 events name) None

-- some request is pending: more were made than were waited for
abbrev pub has_pending : List Event → Bool
has_pending events = nat_lt (awaited_by events) (made_by events)

-- how many requests were made before the one at a place
abbrev pub number_at : ℕ → Option ℕ
number_at zero = None
number_at (suc number) = Some number

-- the number of a request: how many were made before it
abbrev pub number_of : Pending → Option ℕ
number_of request = number_at request.ordinal

-- the number of the request that an event makes or completes
abbrev pub request_number : List Event → Attributes → Option ℕ
request_number before it =
    option_or (option_map (λ receives. made_by before) it.made) (option_and_then (λ wait. option_and_then number_of (pending before wait.0)) it.awaited)
