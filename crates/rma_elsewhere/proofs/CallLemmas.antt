-- What calls do elsewhere.
use Rattle.std.proofs.Common.{◌≡◌, ℕ, Bool, false, is_some, List, Option, Some, None, option_map, refl, sym, ap, ◌∙◌}
use Rattle.std.specs.Option.{option_and_then}
use Rattle.rma_call.specs.declared.local.LocalCall.{LocalCall}
use Rattle.rma_call.specs.declared.rma.RmaCall.{RmaCall}
use Rattle.rma_call.specs.declared.what.What.{What}
use Rattle.rma_call.specs.declared.what.What.TheVariants as what
use Rattle.rma_call.specs.declared.what.SyncCall.{SyncCall}
use Rattle.rma_form.specs.declared.event.Event.{Event}
use Rattle.rma_form.specs.declared.event.Event.TheVariants.{Header, End, Call, Datatype, Rma, Local}
use Rattle.rma_form.specs.declared.event.local_line.LocalLine.{LocalLine}
use Rattle.rma_form.specs.declared.event.rma_line.RmaLine.{RmaLine}
use Rattle.rma_buffer.specs.CallElsewhere.{IsLocalCallElsewhere, IsLocalCallOf, IsRmaCallElsewhere, IsRmaCallOf}
use Rattle.rma_buffer.specs.Calls.{local_call_of, rma_call_of}
use Rattle.rma_buffer.specs.Operands.{kind_of, operand_of, operands_of}
use Rattle.rma_buffer.specs.Rules.{buffers_reason, memory_reason}
use Rattle.rma_buffer.specs.declared.operand.Operand.{Operand}
use Rattle.rma_buffer.specs.declared.operand.Operands.{Operands}
use Rattle.rma_known.specs.Elsewhere.{Details}
use Rattle.rma_type.specs.Table.{Table}
use Rattle.rma_elsewhere.specs.Elsewhere.{DoesElsewhere, event_at, request_at, sync_at}
use Rattle.rma_judge.specs.inside.CallEvent.{IsCallOf}

none_is : {A : Type 0} (x : Option A) → is_some x ≡ false → x ≡ None
none_is None none = refl
none_is (Some x) none = cc none

pub some_is : {A : Type 0} → (x y : A) → Some x ≡ Some y → x ≡ y
some_is x y is = cc

-- ---- calls that access the part of a target

pub rma_in : (what : What) → RmaCall → RmaCall
rma_in (what.Rma call) other = call
rma_in _ other = other

line_in : (event : Event) → RmaLine → RmaLine
line_in (Rma line request) other = line
line_in _ other = other

-- the call of an event is that of its line, whose buffers are good
rma_call_is : (types : Table) (line : RmaLine) (call : RmaCall) (request : Option (List ℕ)) (operands : Option Operands) → operands_of types.live line.access ≡ operands
    → option_map (λ operands. what.Rma (rma_call_of types.origins line operands)) operands ≡ Some (what.Rma call)
    → option_and_then (buffers_reason types.origins types.committed (kind_of line.access) line.target) operands ≡ None → IsRmaCallOf types line call
unfolding rma_in rma_call_of
rma_call_is types line call request None are does good = let none : None ≡ Some (what.Rma call) = does in cc none
rma_call_is types line call request (Some operands) are does good = record {
  operands = operands;
  are = are;
  is = sym (ap (λ w. rma_in w call) (some_is (what.Rma (rma_call_of types.origins line operands)) (what.Rma call) does));
  good = good;
}

pub rma_done : (call moved : RmaCall) (from : List ℕ) (to : Details) → IsRmaCallElsewhere call from to.numbers moved → DoesElsewhere (what.Rma call) false from to (what.Rma moved) None
unfolding line_in
rma_done call moved from to there types (Rma line request) name own here none is =
    let line_there = there types line (ap (λ event. line_in event line) here) (rma_call_is types line call request (operands_of types.live line.access) refl is.does is.good) in
    record {
      does = rw line_there.are (ap (λ own. Some (what.Rma own)) (sym line_there.is));
      request = is.request ∙ none_is own none;
      good = rw line_there.are line_there.good;
    }
rma_done call moved from to there types (Local line) name own here none is = by (operand_of types.live line.buffer) is.does
  where
    by : (memory : Option Operand) → option_map (λ memory. what.Local (local_call_of types.origins line.access memory)) memory ≡ Some (what.Rma call)
        → IsCallOf types (what.Rma moved) None (event_at (Local line) to)
    by None does = cc
    by (Some memory) does = cc
rma_done call moved from to there types (Header version rank size) name own here none is = let bad : None ≡ Some (what.Rma call) = is.does in cc bad
rma_done call moved from to there types End name own here none is = let bad : None ≡ Some (what.Rma call) = is.does in cc bad
rma_done call moved from to there types (Datatype line) name own here none is = let bad : None ≡ Some (what.Rma call) = is.does in cc bad
rma_done call moved from to there types (Call own_call request) name own here none is = let bad = is.does in cc bad

-- ---- local accesses

local_in : (what : What) → LocalCall → LocalCall
local_in (what.Local call) other = call
local_in _ other = other

own_line_in : (event : Event) → LocalLine → LocalLine
own_line_in (Local line) other = line
own_line_in _ other = other

local_call_is : (types : Table) (line : LocalLine) (call : LocalCall) (memory : Option Operand) → operand_of types.live line.buffer ≡ memory
    → option_map (λ memory. what.Local (local_call_of types.origins line.access memory)) memory ≡ Some (what.Local call)
    → option_and_then (memory_reason types.origins) memory ≡ None → IsLocalCallOf types line call
unfolding local_in local_call_of
local_call_is types line call None is_memory does good = let none : None ≡ Some (what.Local call) = does in cc none
local_call_is types line call (Some memory) is_memory does good = record {
  memory = memory;
  is_memory = is_memory;
  is = sym (ap (λ w. local_in w call) (some_is (what.Local (local_call_of types.origins line.access memory)) (what.Local call) does));
  good = good;
}

pub local_done : (call moved : LocalCall) (from : List ℕ) (to : Details) → IsLocalCallElsewhere call from to.numbers moved → DoesElsewhere (what.Local call) false from to (what.Local moved) None
unfolding own_line_in
local_done call moved from to there types (Local line) name own here none is =
    let line_there = there types line (ap (λ event. own_line_in event line) here) (local_call_is types line call (operand_of types.live line.buffer) refl is.does is.good) in
    record {
      does = rw line_there.is_memory (ap (λ own. Some (what.Local own)) (sym line_there.is));
      request = is.request ∙ none_is own none;
      good = rw line_there.is_memory line_there.good;
    }
local_done call moved from to there types (Rma line request) name own here none is = by (operands_of types.live line.access) is.does
  where
    by : (operands : Option Operands) → option_map (λ operands. what.Rma (rma_call_of types.origins line operands)) operands ≡ Some (what.Local call)
        → IsCallOf types (what.Local moved) None (event_at (Rma line request) to)
    by None does = cc
    by (Some operands) does = cc
local_done call moved from to there types (Header version rank size) name own here none is = let bad : None ≡ Some (what.Local call) = is.does in cc bad
local_done call moved from to there types End name own here none is = let bad : None ≡ Some (what.Local call) = is.does in cc bad
local_done call moved from to there types (Datatype line) name own here none is = let bad : None ≡ Some (what.Local call) = is.does in cc bad
local_done call moved from to there types (Call own_call request) name own here none is = let bad = is.does in cc bad

-- ---- calls that access no memory

-- the call of an event that is one of these is its own
pub sync_done : (call : SyncCall) (moved : SyncCall) (requests : Bool) (from : List ℕ) (to : Details) → moved ≡ sync_at call to.numbers to.name → requests ≡ is_some to.request
    → DoesElsewhere (what.Sync call) requests from to (what.Sync moved) to.request
sync_done call moved requests from to there requested types (Call own_call request) name own here has is = record {
  does = ap (λ own. Some (what.Sync own)) (sym there_is);
  request = ap (λ mine. request_at mine to.request) is.request ∙ request_is own to.request (has ∙ requested);
  good = refl;
}
  where
    sync_in : (w : Option What) → SyncCall → SyncCall
    sync_in (Some (what.Sync mine)) other = mine
    sync_in _ other = other

    there_is : moved ≡ sync_at own_call to.numbers to.name
    there_is = there ∙ ap (λ mine. sync_at mine to.numbers to.name) (sym (ap (λ w. sync_in w call) is.does))

    request_is : (mine other : Option (List ℕ)) → is_some mine ≡ is_some other → request_at mine other ≡ other
    request_is None None same = refl
    request_is None (Some x) same = cc same
    request_is (Some x) None same = cc same
    request_is (Some x) (Some y) same = refl
sync_done call moved requests from to there requested types (Rma line request) name own here has is = by (operands_of types.live line.access) is.does
  where
    by : (operands : Option Operands) → option_map (λ operands. what.Rma (rma_call_of types.origins line operands)) operands ≡ Some (what.Sync call)
        → IsCallOf types (what.Sync moved) to.request (event_at (Rma line request) to)
    by None does = cc
    by (Some operands) does = cc
sync_done call moved requests from to there requested types (Local line) name own here has is = by (operand_of types.live line.buffer) is.does
  where
    by : (memory : Option Operand) → option_map (λ memory. what.Local (local_call_of types.origins line.access memory)) memory ≡ Some (what.Sync call)
        → IsCallOf types (what.Sync moved) to.request (event_at (Local line) to)
    by None does = cc
    by (Some memory) does = cc
sync_done call moved requests from to there requested types (Header version rank size) name own here has is = let bad : None ≡ Some (what.Sync call) = is.does in cc bad
sync_done call moved requests from to there requested types End name own here has is = let bad : None ≡ Some (what.Sync call) = is.does in cc bad
sync_done call moved requests from to there requested types (Datatype line) name own here has is = let bad : None ≡ Some (what.Sync call) = is.does in cc bad
