-- What a book keeps of the events of a log, and which events it represents.
use Rattle.std.specs.Prelude.{◌≡◌, ℕ, ◌+◌, ◌<◌, ◌^◌, Bool, true, false, ◌||◌, List, [], ◌∷◌, ◌++◌, Option, Some, None, IfSome, IsSome, Result, Ok, Err}
use Rattle.std.specs.List.{list_any}
use Rattle.std.specs.Map.{lookup}
use Rattle.std.specs.Option.{option_or}
use Rattle.rma_base.specs.declared.form_reason.FormReason.{FormReason}
use Rattle.rma_form.specs.declared.event.Event.{Event}
use Rattle.rma_judge.specs.Naming.{attributes_of, is_end}
use Rattle.rma_type.specs.Names.{id_of}
use Rattle.rma_type.specs.declared.fault.TypeFault.{TypeFault}
use Rattle.rma_type.specs.Table.{Table}
use Rattle.rma_judge.specs.Names.{is_same, of_name, members, window_state, pending, made_by, awaited_by, request_number}
use Rattle.rma_judge.specs.Judging.{datatype_reason, fault_reason, reason_of}
use Rattle.rma_form.specs.declared.event.type_line.TypeLine.{TypeLine}
use Rattle.rma_judge.specs.Types.{types_after, with_event, with_line}
use Rattle.rma_judge.specs.Calls.{what_in}
use Rattle.rma_judge.specs.declared.names.WindowState.{WindowState}
use Rattle.rma_judge.specs.inside.Requests.{RequestTable, AreChanged}
use Rattle.rma_judge.specs.declared.book.Judged.{Judged}
use Rattle.rma_judge.specs.declared.book.Judged.TheVariants.{Bad, Good}
use Rattle.rma_judge.specs.declared.book.access.JudgedAccess.{JudgedAccess}
use Rattle.rma_judge.specs.declared.book.access.JudgedAccess.TheVariants as access

-- a book: the rank and the number of logs; whether an event was taken, and the end; the communicators that were declared,
-- with their members; the windows, with what became of them; the requests; and the datatypes
pub record BookState : Type 0 where
  pub rank : ℕ
  pub logs : ℕ
  pub begun : Bool
  pub ended : Bool
  pub comms : List (List ℕ × List ℕ)
  pub windows : List (List ℕ × WindowState)
  pub requests : RequestTable
  pub types : Table

-- an event was taken
abbrev pub has_begun : List Event → Bool
has_begun [] = false
has_begun (event ∷ events) = true

-- Two tables have the same datatypes, under the same names.
pub record SameTypes (one other : Table) : Type 0 where
  pub origins : one.origins ≡ other.origins
  pub committed : one.committed ≡ other.committed
  pub live : (name : List ℕ) → id_of one.live name ≡ id_of other.live name

-- The book took these events, and no others.
pub record Represents (book : BookState) (events : List Event) : Type 0 where
  pub begun : book.begun ≡ has_begun events
  pub ended : book.ended ≡ list_any is_end events
  pub comms : (name : List ℕ) → lookup (is_same name) book.comms ≡ members events name
  pub windows : (name : List ℕ) → lookup (is_same name) book.windows ≡ window_state events name
  pub pending : (name : List ℕ) → lookup (is_same name) book.requests.pending ≡ pending events name
  pub made : book.requests.made ≡ made_by events
  pub completed : book.requests.completed ≡ awaited_by events
  pub types : SameTypes book.types (types_after events)

-- The book took one event more.
pub record IsTaken (old new : BookState) (event : Event) : Type 0 where
  pub rank : new.rank ≡ old.rank
  pub logs : new.logs ≡ old.logs
  pub begun : new.begun ≡ true
  pub ended : new.ended ≡ (old.ended || is_end event)
  pub comms : (name : List ℕ) → lookup (is_same name) new.comms ≡ option_or (of_name name (attributes_of event).declared) (lookup (is_same name) old.comms)
  pub windows : (name : List ℕ) → lookup (is_same name) new.windows ≡ option_or (of_name name (attributes_of event).window) (lookup (is_same name) old.windows)
  pub requests : AreChanged old.requests new.requests (attributes_of event)
  pub types : (table : Table) → SameTypes old.types table → SameTypes new.types (with_event table event)

-- The book judged an event, and took it where it is good.
pub record IsJudged (old new : BookState) (event : Event) (reason : Option FormReason) : Type 0 where
  pub judged : (events : List Event) → Represents old events → reason ≡ reason_of old.rank old.logs events event
  pub taken : reason ≡ None → (events : List Event) → Represents old events → Represents new (events ++ event ∷ [])
  pub rank : new.rank ≡ old.rank
  pub logs : new.logs ≡ old.logs

-- why a call is bad, if it is
abbrev pub reason_in : Judged → Option FormReason
reason_in (Bad reason) = Some reason
reason_in (Good request) = None

-- the number of the request of a good call
abbrev pub number_in : Judged → Option ℕ
number_in (Bad reason) = None
number_in (Good request) = request

-- why an access is bad, if it is
abbrev pub fault_in : JudgedAccess → Option FormReason
fault_in (access.Bad reason) = Some reason
fault_in (access.Good what request) = None

-- what a good access does, and the number of its request, where a book that took these events judged this one
abbrev pub IsGoodAccess : List Event → Event → JudgedAccess → Type 0
IsGoodAccess events event (access.Bad reason) = Unit {0}
IsGoodAccess events event (access.Good what request) = (what_in (types_after events) event ≡ Some what) × (request ≡ request_number events (attributes_of event))

-- a request that is made has a number that a call can keep
abbrev pub FitsRequest : JudgedAccess → Type 0
FitsRequest (access.Bad reason) = Unit {0}
FitsRequest (access.Good what request) = IfSome request (λ number. number + 1 < 2 ^ 32)

-- why a table refused a change, if it did
abbrev pub refused_in : {A : Type 0} → Result A TypeFault → Option FormReason
refused_in (Ok done) = None
refused_in (Err fault) = Some (fault_reason fault)

-- the line was judged, and the datatypes changed as it says where it is good
pub record IsChanged (old new : Table) (line : TypeLine) (reason : Option FormReason) : Type 0 where
  pub judged : reason ≡ datatype_reason old line
  pub taken : reason ≡ None → (table : Table) → SameTypes old table → SameTypes new (with_line table line)
  pub kept : IsSome reason → new ≡ old
