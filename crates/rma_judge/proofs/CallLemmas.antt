-- Calls, and what they do among datatypes.
use Rattle.std.proofs.Common.{◌≡◌, ℕ, List, Option, Some, None, Result, Ok, Err, OnOk, option_map, ap, ◌∙◌}
use Rattle.std.specs.Option.{option_or}
use Rattle.rma_base.specs.declared.form_reason.FormReason.{FormReason}
use Rattle.rma_call.specs.declared.rma.RmaCall.{RmaCall}
use Rattle.rma_call.specs.declared.what.What.{What}
use Rattle.rma_call.specs.declared.what.What.TheVariants as what
use Rattle.rma_form.specs.declared.event.Event.{Event}
use Rattle.rma_form.specs.declared.event.Event.TheVariants.{Header, End, Call, Datatype, Rma, Local}
use Rattle.rma_buffer.specs.Calls.{local_call_of, rma_call_of}
use Rattle.rma_buffer.specs.Operands.{operand_of, operands_of}
use Rattle.rma_buffer.specs.declared.operand.Operand.{Operand}
use Rattle.rma_buffer.specs.declared.operand.Operands.{Operands}
use Rattle.rma_type.specs.Table.{Table}
use Rattle.rma_judge.specs.Calls.{what_in}
use Rattle.rma_judge.specs.Judging.{ends_early, lacks_type, name_reason, place_reason, reason_of, type_reason, use_reason}
use Rattle.rma_judge.specs.Naming.{attributes_of, no_attributes, with_access}
use Rattle.rma_judge.specs.Types.{types_after}
use Rattle.rma_judge.specs.inside.BookState.{SameTypes}
use Rattle.rma_judge.specs.inside.CallEvent.{IsCallOf, request_of}
use Rattle.rma_judge.proofs.TypeLemmas.{type_reason_same, what_in_same}

-- what follows from what an answer gives
pub OnOk_then : {X E A B : Type 0} → (r : Result X E) → OnOk r A → (A → B) → OnOk r B
OnOk_then (Ok x) h f = f h
OnOk_then (Err e) h f = h

-- tables that have the same datatypes
pub call_same : (one other : Table) → SameTypes one other → (what : What) (request : Option (List ℕ)) (event : Event) → IsCallOf other what request event → IsCallOf one what request event
call_same one other same what request event is = record {
  does = what_in_same one other same event ∙ is.does;
  request = is.request;
  good = type_reason_same one other same event ∙ is.good;
}

-- an event that is good is so for its datatypes
pub typed_none : (rank logs : ℕ) (events : List Event) (event : Event) → reason_of rank logs events event ≡ None → type_reason (types_after events) event ≡ None
typed_none rank logs events event good =
    last_none (place_reason rank logs events event) (name_reason events (attributes_of event) (lacks_type (types_after events) event))
    (use_reason rank logs events (attributes_of event) (ends_early events event)) (type_reason (types_after events) event) good
  where
    last_none : (a b c d : Option FormReason) → option_or a (option_or b (option_or c d)) ≡ None → d ≡ None
    last_none (Some x) b c d is = cc
    last_none None (Some x) c d is = cc
    last_none None None (Some x) d is = cc
    last_none None None None d is = is

-- an access says what its call does of names and ranks
pub access_named : (types : Table) (event : Event) (call : RmaCall) → what_in types event ≡ Some (what.Rma call) → attributes_of event ≡ with_access call.window call.target (request_of event)
unfolding rma_call_of
access_named types (Header version rank size) call is = let none : None ≡ Some (what.Rma call) = is in cc none
access_named types End call is = let none : None ≡ Some (what.Rma call) = is in cc none
access_named types (Datatype line) call is = let none : None ≡ Some (what.Rma call) = is in cc none
access_named types (Call own request) call is = cc
access_named types (Local line) call is = by (operand_of types.live line.buffer) is
  where
    by : (memory : Option Operand) → option_map (λ memory. what.Local (local_call_of types.origins line.access memory)) memory ≡ Some (what.Rma call) → no_attributes ≡ with_access call.window call.target None
    by None is = cc
    by (Some memory) is = cc
access_named types (Rma line request) call is = by (operands_of types.live line.access) is
  where
    by : (operands : Option Operands) → option_map (λ operands. what.Rma (rma_call_of types.origins line operands)) operands ≡ Some (what.Rma call)
        → with_access line.window line.target request ≡ with_access call.window call.target request
    by None is = cc
    by (Some operands) is =
        let same : rma_call_of types.origins line operands ≡ call = cc in
        ap (λ (c : RmaCall). with_access c.window c.target request) same
