-- What is kept after one more call.
use Rattle.std.proofs.Common.{◌≡◌, ℕ, true, cond, ◌∷◌, ◌++◌, List, [], length, Option, Some, None, sym, ap, ◌∙◌}
use Rattle.std.specs.Prelude.{is_none, is_some}
use Rattle.std.specs.Option.{option_and_then}
use Rattle.std.proofs.lemmas.Bool.{false≢true}
use Rattle.rma_base.specs.declared.epoch_reason.EpochReason.{EpochReason}
use Rattle.rma_call.specs.Call.{Call}
use Rattle.rma_call.specs.declared.what.What.{What}
use Rattle.rma_window.specs.declared.window_id.WindowId.{WindowId}
use Rattle.rma_window.specs.Windows.{Window, number_of}
use Rattle.rma_open.specs.Calls.{number_on}
use Rattle.rma_open.specs.Reason.{reason_at}
use Rattle.rma_epoch.specs.declared.epoch.Epoch.{Epoch}
use Rattle.rma_epoch.specs.declared.epoch.Placed.{Placed}
use Rattle.rma_epoch.specs.declared.live.Taken.{Taken}
use Rattle.rma_epoch.specs.declared.open_windows.Place.{Place}
use Rattle.rma_epoch.specs.declared.placements.Indices.{Indices}
use Rattle.rma_epoch.specs.declared.placements.Placement.{Placement}
use Rattle.rma_epoch.specs.Table.{closing_at, epochs_of, index_at, index_in, placed_of}
use Rattle.rma_epoch.specs.inside.Epochs.{epochs_with, index_of_opening, placed_with}
use Rattle.rma_epoch.specs.inside.Live.{taken_of}
use Rattle.rma_epoch.specs.inside.Windows.{IsPlaceOf, placed_at}
use Rattle.rma_epoch.proofs.TableLemmas.{epochs_push, placed_push}

-- the number of the window at a place
pub place_window : (windows : List Window) (names : List (List ℕ)) (what : What) (place : Option Place) → IsPlaceOf windows names what place → option_and_then (λ (p : Place). p.window) place ≡ number_on windows what
place_window windows names what None on = sym (ap (option_and_then (number_of windows)) on)
place_window windows names what (Some place) is = is.4

module _ (windows : List Window) (calls : List Call) (call : Call) (placement : Placement) (old : List Epoch) (stands : placement ≡ placed_at calls call) (are : old ≡ epochs_of windows calls) where
  -- the epochs after one more call
  pub next_epochs : (number : ℕ) (window : Option WindowId) → number ≡ length calls → window ≡ number_on windows call.what → epochs_with number call.what window placement.closes old ≡ epochs_of windows (calls ++ call ∷ [])
  next_epochs number window counted on =
      ap (λ (es : List Epoch). epochs_with number call.what window placement.closes es) are
      ∙ ap (λ n. epochs_with n call.what window placement.closes (epochs_of windows calls)) counted
      ∙ ap (λ (w : Option WindowId). epochs_with (length calls) call.what w placement.closes (epochs_of windows calls)) on
      ∙ ap (λ (p : Placement). epochs_with (length calls) call.what (number_on windows call.what) p.closes (epochs_of windows calls)) stands
      ∙ epochs_push windows calls call

  index_is : index_of_opening old placement ≡ index_at windows calls call
  index_is = ap (λ (es : List Epoch). index_of_opening es placement) are ∙ ap (index_of_opening (epochs_of windows calls)) stands

  closes_is : option_and_then (index_in old) placement.closes ≡ closing_at windows calls call
  closes_is = ap (λ (es : List Epoch). option_and_then (index_in es) placement.closes) are ∙ ap (λ (p : Placement). option_and_then (index_in (epochs_of windows calls)) p.closes) stands

  -- the accesses after one more call
  pub next_placed : (number : ℕ) (placed : List Placed) → number ≡ length calls → placed ≡ placed_of windows calls → placed_with number (index_of_opening old placement) placed ≡ placed_of windows (calls ++ call ∷ [])
  next_placed number placed counted own =
      ap (placed_with number (index_of_opening old placement)) own
      ∙ ap (λ n. placed_with n (index_of_opening old placement) (placed_of windows calls)) counted
      ∙ ap (λ (i : Option ℕ). placed_with (length calls) i (placed_of windows calls)) index_is
      ∙ placed_push windows calls call

  -- what comes of it
  pub next_taken : (indices : Indices) → indices ≡ record { epoch = index_of_opening old placement; closes = option_and_then (index_in old) placement.closes } → None ≡ reason_at windows calls call
      → record { reason = None; epoch = indices.epoch; closes = indices.closes } ≡ taken_of windows calls call
  next_taken indices is none =
      let epoch : indices.epoch ≡ index_at windows calls call = ap (λ (i : Indices). i.epoch) is ∙ index_is in
      let closes : indices.closes ≡ closing_at windows calls call = ap (λ (i : Indices). i.closes) is ∙ closes_is in
      (λ j. record { reason = None; epoch = epoch j; closes = closes j })
      ∙ ap (λ (r : Option EpochReason). cond (is_none r) (record { reason = None; epoch = index_at windows calls call; closes = closing_at windows calls call }) (record { reason = r; epoch = None; closes = None })) none

-- what comes of a call that is not taken
pub not_taken : (windows : List Window) (calls : List Call) (call : Call) (taken : Taken) (reason : Option EpochReason) → taken ≡ record { reason = reason; epoch = None; closes = None } → is_some reason ≡ true → reason ≡ reason_at windows calls call → taken ≡ taken_of windows calls call
not_taken windows calls call taken None is some own = absurd (false≢true some)
not_taken windows calls call taken (Some r) is some own =
    is ∙ ap (λ (r : Option EpochReason). cond (is_none r) (record { reason = None; epoch = index_at windows calls call; closes = closing_at windows calls call }) (record { reason = r; epoch = None; closes = None })) own
