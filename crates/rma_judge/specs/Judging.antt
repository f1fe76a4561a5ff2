-- Why an event is bad among the events before it (docs/FORMAT.md).
use Rattle.std.specs.Prelude.{ℕ, ◌+◌, ◌==◌, Bool, true, false, not, ◌&&◌, ◌||◌, nat_lt, List, [], ◌∷◌, Option, Some, None, is_some, is_none, option_map, if◌then◌else◌}
use Rattle.std.specs.Option.{option_or, option_map_or, option_and_then}
use Rattle.std.specs.List.{list_any}
use Rattle.rma_base.specs.Limits.{address_limit}
use Rattle.rma_base.specs.declared.form_reason.FormReason.{FormReason}
use Rattle.rma_base.specs.declared.form_reason.FormReason.TheVariants.{BadHeader, WrongHeader, AfterEnd, UnknownComm, UnknownWindow, UnknownRequest, UnknownType, NameInUse, RankTooLarge, NotInGroup, WrongWait, NegativeCount, BadSubarray, TooManyElements, OutOfSpace, RequestPending, RootNotMember, NotDynamic}
use Rattle.rma_base.specs.RankSet.{has_number}
use Rattle.rma_form.specs.declared.event.Event.{Event}
use Rattle.rma_form.specs.declared.event.Event.TheVariants.{Header, Datatype, Rma, Local}
use Rattle.rma_form.specs.declared.event.type_line.TypeLine.{TypeLine}
use Rattle.rma_form.specs.declared.event.type_line.TypeLine.TheVariants.{Make, Commit, Free}
use Rattle.rma_type.specs.declared.fault.TypeFault.{TypeFault}
use Rattle.rma_type.specs.declared.fault.TypeFault.TheVariants as fault
use Rattle.rma_type.specs.Names.{id_of}
use Rattle.rma_type.specs.Refusal.{refusal}
use Rattle.rma_type.specs.Table.{Table, names_derived}
use Rattle.rma_buffer.specs.Operands.{kind_of, operand_of, operands_of}
use Rattle.rma_buffer.specs.Rules.{buffers_reason, memory_reason}
use Rattle.rma_judge.specs.Naming.{Attributes, attributes_of, is_header, is_end}
use Rattle.rma_judge.specs.Types.{types_after}
use Rattle.rma_judge.specs.Names.{has_comm, has_member, window_state, had_window, is_there, is_fixed, pending, has_pending}

-- ---- where an event stands

-- the first event is no header, or a later one is
abbrev pub misplaces_header : List Event → Event → Bool
misplaces_header [] event = not (is_header event)
misplaces_header (first ∷ before) event = is_header event

-- a header with another rank, or with another number of logs
abbrev pub is_of_another_log : ℕ → ℕ → Event → Bool
is_of_another_log rank logs (Header version r n) = not (r.0 == rank) || not (n == logs)
is_of_another_log rank logs _ = false

-- ---- the names of an event

-- the event needs a communicator that is not there
abbrev pub lacks_comm : List Event → Attributes → Bool
lacks_comm before it = option_map_or (λ comm. not (has_comm before comm)) it.needed_comm false

-- the event needs a window that is not there
abbrev pub lacks_window : List Event → Attributes → Bool
lacks_window before it = option_map_or (λ window. not (is_there (window_state before window))) it.needed_window false

-- the event waits for a request that is not pending
abbrev pub lacks_request : List Event → Attributes → Bool
lacks_request before it = option_map_or (λ wait. is_none (pending before wait.0)) it.awaited false

-- the event gives a name that is in use: a communicator's, a window's, which stays in use for ever, or a request's that is
-- pending
abbrev pub takes_used_name : List Event → Attributes → Bool
takes_used_name before it =
    option_map_or (λ declared. has_comm before declared.0) it.declared false
    || (option_map_or (had_window before) it.created false || option_map_or (λ made. is_some (pending before made.0)) it.made false)

-- ---- what an event does

-- no log is that of this rank
abbrev pub is_far : ℕ → ℕ → Bool
is_far logs rank = not (nat_lt rank logs)

-- the event names a rank that no log has
abbrev pub has_far_rank : ℕ → Attributes → Bool
has_far_rank logs it = option_map_or (list_any (is_far logs)) it.group false || option_map_or (is_far logs) it.rank false

-- a communicator without the rank that declares it
abbrev pub leaves_out : ℕ → Attributes → Bool
leaves_out rank it = option_map_or (λ declared. not (has_number rank declared.1)) it.declared false

-- one of the two is so, and the other is not
abbrev pub differ : Bool → Bool → Bool
differ true other = not other
differ false other = other

-- the event waits for a receive, and no message came, or for another request, and one came
abbrev pub waits_wrongly : List Event → Attributes → Bool
waits_wrongly before it = option_map_or (λ wait. option_map_or (λ request. differ request.receives wait.1) (pending before wait.0) false) it.awaited false

-- memory that does not end in the space of addresses
abbrev pub leaves_space : Attributes → Bool
leaves_space it = option_map_or (λ memory. nat_lt address_limit (memory.0 + memory.1)) it.memory false

-- the log ends while a request is pending
abbrev pub ends_early : List Event → Event → Bool
ends_early before event = is_end event && has_pending before

-- the root of a collective is no member of its communicator
abbrev pub misses_root : ℕ → List Event → Attributes → Bool
misses_root logs before it = option_map_or (λ root. not (has_member logs before root.0 root.1)) it.root false

-- memory is attached to a window that has its own, or detached from one
abbrev pub attaches_wrongly : List Event → Attributes → Bool
attaches_wrongly before it = option_map_or (λ window. is_fixed (window_state before window)) it.attached false

-- ---- the datatypes of an event

-- the event has a buffer, and the name of the datatype of one is not live
abbrev pub lacks_type : Table → Event → Bool
lacks_type types (Rma line request) = is_none (operands_of types.live line.access)
lacks_type types (Local line) = is_none (operand_of types.live line.buffer)
lacks_type types _ = false

-- the reason that stands for the refusal of a table of datatypes
abbrev pub fault_reason : TypeFault → FormReason
fault_reason fault.UnknownType = UnknownType
fault_reason fault.NameInUse = NameInUse
fault_reason fault.NegativeCount = NegativeCount
fault_reason fault.BadSubarray = BadSubarray
fault_reason fault.TooManyElements = TooManyElements
fault_reason fault.OutOfSpace = OutOfSpace

-- why a line that speaks of a datatype is bad, if it is
abbrev pub datatype_reason : Table → TypeLine → Option FormReason
datatype_reason types (Make name constructor) = option_map fault_reason (refusal types name constructor)
datatype_reason types (Commit name) = if is_none (id_of types.live name) then Some UnknownType else None
datatype_reason types (Free name) = if names_derived types name then None else Some UnknownType

-- why an event is bad for its datatypes, if it is: what becomes of them, or what a call does with its buffers
abbrev pub type_reason : Table → Event → Option FormReason
type_reason types (Datatype line) = datatype_reason types line
type_reason types (Rma line request) =
    option_and_then (buffers_reason types.origins types.committed (kind_of line.access) line.target) (operands_of types.live line.access)
type_reason types (Local line) = option_and_then (memory_reason types.origins) (operand_of types.live line.buffer)
type_reason types _ = None

-- ---- the reasons

-- the first of the reasons that holds
abbrev pub first_that_holds : List (FormReason × Bool) → Option FormReason
first_that_holds [] = None
first_that_holds ((reason, holds) ∷ later) = if holds then Some reason else first_that_holds later

-- whether the event stands where it may: after the header of this log, and before the end
abbrev pub place_reason : ℕ → ℕ → List Event → Event → Option FormReason
place_reason rank logs before event = first_that_holds (
    (BadHeader, misplaces_header before event)
    ∷ (WrongHeader, is_of_another_log rank logs event)
    ∷ (AfterEnd, list_any is_end before)
    ∷ [])

-- whether what the event names is there, and the names that it gives are free
abbrev pub name_reason : List Event → Attributes → Bool → Option FormReason
name_reason before it lacks_type = first_that_holds (
    (UnknownComm, lacks_comm before it)
    ∷ (UnknownWindow, lacks_window before it)
    ∷ (UnknownRequest, lacks_request before it)
    ∷ (UnknownType, lacks_type)
    ∷ (NameInUse, takes_used_name before it)
    ∷ [])

-- whether the event does what it may
abbrev pub use_reason : ℕ → ℕ → List Event → Attributes → Bool → Option FormReason
use_reason rank logs before it ends = first_that_holds (
    (RankTooLarge, has_far_rank logs it)
    ∷ (NotInGroup, leaves_out rank it)
    ∷ (WrongWait, waits_wrongly before it)
    ∷ (OutOfSpace, leaves_space it)
    ∷ (RequestPending, ends)
    ∷ (RootNotMember, misses_root logs before it)
    ∷ (NotDynamic, attaches_wrongly before it)
    ∷ [])

-- why an event is bad in the log of a rank among so many logs, after these events, if it is
abbrev pub reason_of : ℕ → ℕ → List Event → Event → Option FormReason
reason_of rank logs before event =
    let it = attributes_of event in
    let types = types_after before in
    option_or (place_reason rank logs before event)
    (option_or (name_reason before it (lacks_type types event))
    (option_or (use_reason rank logs before it (ends_early before event)) (type_reason types event)))
