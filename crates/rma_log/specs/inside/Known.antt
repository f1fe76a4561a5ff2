-- What known words state, so that it needs no more than its names to be judged again, and what other words state by them.
use Rattle.std.specs.Prelude.{◌≡◌, ℕ, ◌<◌, List, Option, Some, None, true, length, slice_get}
use Rattle.rma_call.specs.Rma.{placed}
use Rattle.rma_call.specs.declared.rma.Placement.{Placement}
use Rattle.rma_call.specs.declared.rma.RmaCall.{RmaCall}
use Rattle.rma_call.specs.declared.what.What.{What}
use Rattle.rma_call.specs.declared.what.What.TheVariants as what
use Rattle.rma_call.specs.declared.what.SyncCall.{SyncCall}
use Rattle.rma_form.specs.declared.event.Event.{Event}
use Rattle.rma_form.specs.declared.event.Event.TheVariants.{Call}
use Rattle.rma_known.specs.Known.{Known, IsAmong}
use Rattle.rma_reader.specs.Reading.{Reading}
use Rattle.rma_type.specs.Table.{Table}
use Rattle.rma_judge.specs.inside.CallEvent.{IsCallOf}
use Rattle.rma_elsewhere.specs.Elsewhere.{IsStatedBy}

-- known words state a call that does what has their number, among these datatypes; among all, where it is said so
pub record IsKnownCall (types : Table) (whats : List What) (known : Known) : Type 0 where
  pub event : Event
  pub said : IsStatedBy known.version known.words event
  pub what : What
  pub is : slice_get whats known.what ≡ Some what
  pub call : IsCallOf types what known.request event
  pub lasting : known.lasts ≡ true → (sync : SyncCall) × (event ≡ Call sync known.request)

-- so do all words that are known
abbrev pub AreKnown : Table → Reading → Type 0
AreKnown types reading = (known : Known) → IsAmong reading.known known → IsKnownCall types reading.calls.whats known

-- the words state a call that does this, with this request, where known words state what is known of them
abbrev pub StatesWhat : Reading → List ℕ → What → Option (List ℕ) → Type 0
StatesWhat reading words what request = (types : Table) → AreKnown types reading → (event : Event) × IsStatedBy reading.version words event × IsCallOf types what request event

-- the same of the access of a number, made at a place
abbrev pub StatesAccess : Reading → List ℕ → ℕ → Placement → Type 0
StatesAccess reading words number place =
    (number < length reading.calls.whats) × ((call : RmaCall) → slice_get reading.calls.whats number ≡ Some (what.Rma call) → StatesWhat reading words (what.Rma (placed call place)) None)
