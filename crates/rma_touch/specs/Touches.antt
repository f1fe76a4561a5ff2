-- What a call touches in each of its roles (MPI 4.0, "One-Sided Communications", communication calls).
use Rattle.std.specs.Prelude.{ℕ, ◌+◌, ◌*◌, ℤ, pos, List, [], ◌∷◌, map, Bool, true, false, Option, Some, None, if◌then◌else◌}
use Rattle.std.specs.List.{filter_map}
use Rattle.std.specs.Option.{option_and_then}
use Rattle.rma_base.specs.declared.rank.Rank.{Rank}
use Rattle.rma_base.specs.declared.point.Point.{Point}
use Rattle.rma_bytes.specs.declared.run.Run.{Run}
use Rattle.rma_bytes.specs.Layout.{Layout}
use Rattle.rma_bytes.specs.Runs.{IsCanonical, moved}
use Rattle.rma_call.specs.Call.{Call}
use Rattle.rma_call.specs.declared.rma.RmaCall.{RmaCall}
use Rattle.rma_call.specs.declared.what.What.{What}
use Rattle.rma_call.specs.declared.what.What.TheVariants.{Rma, Local}
use Rattle.rma_link.specs.Point.{entry}
use Rattle.rma_window.specs.declared.part.Part.{Part}
use Rattle.rma_window.specs.declared.window_id.WindowId.{WindowId}
use Rattle.rma_window.specs.Windows.{Window, number_of}
use Rattle.rma_open.specs.Calls.{part_on}
use Rattle.rma_open.specs.Range.{touches_outside}
use Rattle.rma_rules.specs.declared.access_name.Role.{Role}
use Rattle.rma_rules.specs.declared.access_name.Role.TheVariants as role
use Rattle.rma_rules.specs.declared.kind.Kind.{Kind}
use Rattle.rma_rules.specs.declared.kind.Kind.TheVariants.{BufferRead, BufferWrite}
use Rattle.rma_rules.specs.declared.lock.LockKey.{LockKey}
use Rattle.rma_rules.specs.Access.{Access, starts_of}
use Rattle.rma_touch.specs.Touch.{Touch, kind_at_origin, kind_at_target, kind_of_local}

-- ---- one role

-- whether there is no run
abbrev pub has_none : List Run → Bool
has_none [] = true
has_none (run ∷ runs) = false

-- it, where any byte is touched
abbrev pub if_any : Touch → Option Touch
if_any touch = if has_none touch.runs then None else Some touch

-- how far from the address 0 an access at a displacement in a part starts
abbrev pub start_in : Part → ℕ → ℤ
start_in part displacement = pos (part.base + displacement * part.unit)

-- what an access touches in the part of its target, where that holds each byte
abbrev pub touch_in : Part → WindowId → Rank → RmaCall → Option Touch
touch_in part id target access =
    if touches_outside part access.displacement access.at_target.runs then None
    else if_any
    (record {
      role = role.Target;
      memory = target;
      runs = map (moved (start_in part access.displacement)) access.at_target.runs;
      kind = kind_at_target access.kind;
      window = Some id;
      element = access.at_target.element;
    })

-- what an access touches at its target, where that has a part of its window which holds each byte
abbrev pub target_touch : List Window → RmaCall → Option Touch
target_touch windows access =
    option_and_then (λ target. option_and_then (λ id. option_and_then (λ part. touch_in part id target access) (part_on windows (Rma access))) (number_of windows access.window)) access.target

-- what a call touches of the memory of its own rank
abbrev pub own_touch : Rank → Role → Kind → Layout → Option Touch
own_touch rank role kind layout = if_any (record { role = role; memory = rank; runs = layout.runs; kind = kind; window = None; element = None })

-- what an access touches in a buffer; one without a target has no effect
abbrev pub buffer_touch : Rank → Role → Kind → RmaCall → Option Layout → Option Touch
buffer_touch rank role kind access buffer = option_and_then (λ target. option_and_then (own_touch rank role kind) buffer) access.target

-- what a call of a rank touches in a role: a load, a store or a poll touches memory by itself; an access reads or writes the part of
-- its target and its origin, and writes a result and reads what it compares where it has these buffers
abbrev pub touch_at : List Window → Rank → What → Role → Option Touch
touch_at windows rank (Local local) role.Local = own_touch rank role.Local (kind_of_local local.access) local.layout
touch_at windows rank (Rma access) role.Target = target_touch windows access
touch_at windows rank (Rma access) role.Origin = buffer_touch rank role.Origin (kind_at_origin access.kind) access access.origin
touch_at windows rank (Rma access) role.Result = buffer_touch rank role.Result BufferWrite access access.result
touch_at windows rank (Rma access) role.Compare = buffer_touch rank role.Compare BufferRead access access.compare
touch_at windows rank what own = None

-- ---- all roles

-- the roles, in their order
abbrev pub roles : List Role
roles = role.Local ∷ role.Target ∷ role.Origin ∷ role.Result ∷ role.Compare ∷ []

-- all that a call of a rank touches, in the order of the roles
abbrev pub touches_of : List Window → Rank → What → List Touch
touches_of windows rank what = filter_map (touch_at windows rank what) roles

-- ---- as accesses

-- where an access starts at its target beside the entry of its call, where it is done, and in which lock epochs it lies
pub record Span : Type 0 where
  pub opening : Option Point
  pub done : Option Point
  pub locks : List LockKey

-- the access that a call of a number of a rank makes by what it touches
abbrev pub access_with : Rank → ℕ → Call → Touch → Span → Access
access_with rank number call touch span = record {
  name = record { rank = rank; line = call.line; role = touch.role };
  site = call.site;
  call = number;
  memory = touch.memory;
  runs = touch.runs;
  kind = touch.kind;
  window = touch.window;
  element = touch.element;
  starts = starts_of rank number span.opening;
  done = span.done;
  locks = span.locks;
}

-- the span of an access of which nothing but its call is known: it starts and is done where that is entered
abbrev pub call_alone : Rank → ℕ → Span
call_alone rank number = record { opening = None; done = Some (entry rank number); locks = [] }

-- the accesses that one call makes, without their spans
abbrev pub parts_of : List Window → Rank → ℕ → Call → List Access
parts_of windows rank number call = map (λ touch. access_with rank number call touch (call_alone rank number)) (touches_of windows rank call.what)

-- ---- what is asked of a call

-- the buffers of an access at its origin lie in the bounds of sets of bytes, as lists in their one form
abbrev pub IsBuffer : Option Layout → Type 0
IsBuffer None = Unit {0}
IsBuffer (Some layout) = IsCanonical layout.runs

-- so do those of any call; a good log has no others
abbrev pub HasBuffers : What → Type 0
HasBuffers (Rma access) = IsBuffer access.origin × IsBuffer access.result × IsBuffer access.compare
HasBuffers _ = Unit {0}
