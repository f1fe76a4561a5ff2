-- Lines that state a call that is known, elsewhere.
use Rattle.std.proofs.Common.{◌≡◌, ℕ, ◌<◌, Bool, false, length, List, Option, Some, None, slice_get, sym, ap, subst, ◌∙◌}
use Rattle.rma_call.specs.declared.local.LocalCall.{LocalCall}
use Rattle.rma_call.specs.Rma.{placed}
use Rattle.rma_call.specs.declared.rma.Placement.{Placement}
use Rattle.rma_call.specs.declared.rma.RmaCall.{RmaCall}
use Rattle.rma_call.specs.declared.what.What.{What}
use Rattle.rma_call.specs.declared.what.What.TheVariants as what
use Rattle.rma_buffer.specs.CallElsewhere.{IsLocalCallElsewhere, IsRmaCallElsewhere}
use Rattle.rma_known.specs.Elsewhere.{Details, IsKnownElsewhere}
use Rattle.rma_reader.specs.Reading.{Reading}
use Rattle.rma_judge.specs.inside.CallEvent.{IsCallOf}
use Rattle.rma_elsewhere.specs.Elsewhere.{DoesElsewhere, IsStatedBy, event_at}
use Rattle.rma_elsewhere.proofs.CallLemmas.{local_done, rma_done, some_is}
use Rattle.rma_elsewhere.proofs.LineLemmas.{stated_elsewhere}
use Rattle.rma_log.specs.inside.Known.{StatesAccess, StatesWhat}

-- the words state what the known call does there
pub states_done : (reading : Reading) (words : List ℕ) (number : ℕ) (requests : Bool) (from : List ℕ) (to : Details) (does moved : What) (request : Option (List ℕ))
    → IsKnownElsewhere reading.known reading.version words number requests from to → slice_get reading.calls.whats number ≡ Some does → DoesElsewhere does requests from to moved request
    → StatesWhat reading words moved request
states_done reading words number requests from to does moved request found is done types are =
    let own = are found.known found.among in
    let here : Details = record { numbers = from; name = found.name; request = found.known.request } in
    let stated = stated_elsewhere reading.version found.form found.known.words words here to own.event (subst (λ v. IsStatedBy v found.known.words own.event) found.version own.said) found.here found.there in
    let same = some_is own.what does (sym own.is ∙ ap (slice_get reading.calls.whats) found.does ∙ is) in
    let call = subst (λ w. IsCallOf types w found.known.request own.event) same own.call in
    (event_at own.event to, stated.0, done types own.event found.name found.known.request stated.1 found.request call)

rma_is : (x y : RmaCall) → what.Rma x ≡ what.Rma y → x ≡ y
rma_is x y is = cc

-- so they do where that is an access at a place
pub access_states : (reading : Reading) (words : List ℕ) (number : ℕ) (requests : Bool) (from : List ℕ) (to : Details) (call : RmaCall) (place : Placement) → requests ≡ false
    → IsKnownElsewhere reading.known reading.version words number requests from to → number < length reading.calls.whats → slice_get reading.calls.whats number ≡ Some (what.Rma call)
    → IsRmaCallElsewhere call from to.numbers (placed call place) → StatesAccess reading words number place
access_states reading words number requests from to call place none found within is there = (
  within,
  λ own at.
      let done = subst (λ has. DoesElsewhere (what.Rma call) has from to (what.Rma (placed call place)) None) (sym none) (rma_done call (placed call place) from to there) in
      subst (λ mine. StatesWhat reading words (what.Rma (placed mine place)) None) (rma_is call own (some_is (what.Rma call) (what.Rma own) (sym is ∙ at)))
      (states_done reading words number requests from to (what.Rma call) (what.Rma (placed call place)) None found is done),
)

-- and where it is a local access
pub local_states : (reading : Reading) (words : List ℕ) (number : ℕ) (requests : Bool) (from : List ℕ) (to : Details) (call moved : LocalCall) → requests ≡ false
    → IsKnownElsewhere reading.known reading.version words number requests from to → slice_get reading.calls.whats number ≡ Some (what.Local call) → IsLocalCallElsewhere call from to.numbers moved
    → StatesWhat reading words (what.Local moved) None
local_states reading words number requests from to call moved none found is there =
    states_done reading words number requests from to (what.Local call) (what.Local moved) None found is
    (subst (λ has. DoesElsewhere (what.Local call) has from to (what.Local moved) None) (sym none) (local_done call moved from to there))
