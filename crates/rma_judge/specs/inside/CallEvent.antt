-- Events that are calls.
use Rattle.std.specs.Prelude.{◌≡◌, ℕ, List, Option, Some, None, false}
use Rattle.rma_call.specs.declared.what.What.{What}
use Rattle.rma_form.specs.declared.event.Event.{Event}
use Rattle.rma_form.specs.declared.event.Event.TheVariants.{Call, Rma}
use Rattle.rma_type.specs.Table.{Table}
use Rattle.rma_judge.specs.Calls.{what_in}
use Rattle.rma_judge.specs.Judging.{is_of_another_log, lacks_type, type_reason}
use Rattle.rma_judge.specs.Naming.{is_end, is_header}
use Rattle.rma_judge.specs.Types.{is_datatype}

-- the request that stands beside a call
abbrev pub request_of : Event → Option (List ℕ)
request_of (Call call request) = request
request_of (Rma line request) = request
request_of _ = None

-- the call of the event does this among these datatypes, with this request, and is not bad for them
pub record IsCallOf (types : Table) (what : What) (own : Option (List ℕ)) (event : Event) : Type 0 where
  pub does : what_in types event ≡ Some what
  pub request : request_of event ≡ own
  pub good : type_reason types event ≡ None

-- an event that is a call, which is not bad for its datatypes
pub record IsCall (types : Table) (event : Event) : Type 0 where
  pub plain : is_header event ≡ false
  pub own : (rank logs : ℕ) → is_of_another_log rank logs event ≡ false
  pub goes_on : is_end event ≡ false
  pub other : is_datatype event ≡ false
  pub live : lacks_type types event ≡ false
  pub good : type_reason types event ≡ None
