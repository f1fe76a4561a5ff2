-- The spans of an access, once its epoch is found.
use Rattle.std.proofs.Common.{◌≡◌, ℕ, Option, Some, slice_get, ap, ◌∙◌, refl}
use Rattle.std.specs.Option.{option_and_then}
use Rattle.rma_base.specs.declared.rank.Rank.{Rank}
use Rattle.rma_call.specs.Call.{Call}
use Rattle.rma_call.specs.declared.rma.RmaCall.{RmaCall}
use Rattle.rma_call.specs.declared.what.What.{What}
use Rattle.rma_call.specs.declared.what.What.TheVariants.{Rma}
use Rattle.rma_epoch.specs.declared.epoch.Epoch.{Epoch}
use Rattle.rma_epoch.specs.Table.{epoch_at, epochs_of, placed_of}
use Rattle.rma_span.specs.Span.{Origin, buffer_span, epoch_of, own_span_of, target_span, target_span_of}

-- the epoch of a call, by its index
pub epoch_here : (own : Origin) (number index : ℕ) (epoch : Epoch) → epoch_at (placed_of own.windows own.sound) number ≡ Some index
    → slice_get (epochs_of own.windows own.sound) index ≡ Some epoch → epoch_of own number ≡ Some epoch
epoch_here own number index epoch e f = ap (option_and_then (slice_get (epochs_of own.windows own.sound))) e ∙ f

-- the span of its buffers
pub own_here : (own : Origin) (number : ℕ) (call : Call) (access : RmaCall) (epoch : Epoch) (target : Rank) (request : Option ℕ)
    → call.what ≡ Rma access → access.target ≡ Some target → call.request ≡ request → epoch_of own number ≡ Some epoch
    → own_span_of own number call call.what ≡ Some (buffer_span own epoch target request number)
own_here own number call access epoch target request what to made found = rw (what, found, to, made) refl

-- the span at its target
pub target_here : (own : Origin) (number : ℕ) (what : What) (access : RmaCall) (epoch : Epoch) (target : Rank)
    → what ≡ Rma access → access.target ≡ Some target → epoch_of own number ≡ Some epoch → target_span_of own number what ≡ Some (target_span own epoch target number)
target_here own number does access epoch target what to found = rw (what, found, to) refl
