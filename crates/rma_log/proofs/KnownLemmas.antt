-- Words that are known, as the datatypes and the tables change.
use Rattle.std.proofs.Common.{◌≡◌, List, [], ◌∷◌, ◌++◌, Some, None, slice_get, true, false, refl, sym, ap, subst, ◌∙◌, ◌⊎◌, ⊎_elim}
use Rattle.rma_call.specs.Call.{CallTable}
use Rattle.rma_form.specs.declared.event.Event.{Event}
use Rattle.rma_known.specs.Known.{Known, IsAmong}
use Rattle.rma_reader.specs.Reading.{Grows, Reading}
use Rattle.rma_type.specs.Table.{Table}
use Rattle.rma_judge.specs.Calls.{what_in}
use Rattle.rma_judge.specs.Judging.{type_reason}
use Rattle.rma_judge.specs.Types.{is_datatype, types_after}
use Rattle.rma_log.specs.inside.Known.{AreKnown, IsKnownCall}
use Rattle.rma_judge.proofs.TypeLemmas.{types_after_more, with_event_other}

-- the tables may grow
pub known_grown : (types : Table) (old grown : Reading) → Grows old grown → AreKnown types old → AreKnown types grown
known_grown types old grown grows h known at =
    let it = h known (subst (λ them. IsAmong them known) grows.known at) in
    record { event = it.event; said = it.said; what = it.what; is = grows.whats known.what it.what it.is; call = it.call; lasting = it.lasting }

-- an event that does not speak of a datatype changes nothing
pub known_on : (events : List Event) (event : Event) (reading : Reading) → is_datatype event ≡ false → AreKnown (types_after events) reading → AreKnown (types_after (events ++ event ∷ [])) reading
known_on events event reading other h =
    subst (λ types. AreKnown types reading) (sym (types_after_more events event ∙ with_event_other (types_after events) event other)) h

-- where the datatypes change, the words that last state what they did
pub known_lasting : (one other : Table) (old new : Reading) → new.calls ≡ old.calls → ((known : Known) → IsAmong new.known known → IsAmong old.known known)
    → ((known : Known) → IsAmong new.known known → known.lasts ≡ true) → AreKnown one old → AreKnown other new
known_lasting one other old new calls among lasting h known at =
    let it = h known (among known at) in
    let sync = it.lasting (lasting known at) in
    record {
      event = it.event;
      said = it.said;
      what = it.what;
      is = ap (λ (table : CallTable). slice_get table.whats known.what) calls ∙ it.is;
      call = record {
        does = subst (λ e. what_in other e ≡ Some it.what) (sym sync.1) (subst (λ e. what_in one e ≡ Some it.what) sync.1 it.call.does);
        request = it.call.request;
        good = subst (λ e. type_reason other e ≡ None) (sym sync.1) refl;
      };
      lasting = it.lasting;
    }

-- these words may be noted too
pub known_noted : (types : Table) (old new : Reading) (own : Known) → new.calls ≡ old.calls → ((known : Known) → IsAmong new.known known → IsAmong old.known known ⊎ (known ≡ own))
    → IsKnownCall types old.calls.whats own → AreKnown types old → AreKnown types new
known_noted types old new own calls noted is h known at =
    subst (λ (table : CallTable). IsKnownCall types table.whats known) (sym calls)
    (⊎_elim (λ (there : IsAmong old.known known). h known there) (λ (same : known ≡ own). subst (IsKnownCall types old.calls.whats) (sym same) is) (noted known at))
