-- Ranks that have no call on a window.
use Rattle.std.proofs.Common.{◌≡◌, ℕ, suc, ◌+◌, false, List, [], ◌∷◌, ◌++◌, length, map, Option, Some, None, ◌||◌, slice_get, refl, sym, ap, ◌∙◌}
use Rattle.std.specs.Prelude.{option_map}
use Rattle.std.specs.List.{cons_option, list_any}
use Rattle.std.specs.Option.{option_and_then, option_map_or}
use Rattle.std.proofs.lemmas.List.Folds.{list_any-append}
use Rattle.rma_base.specs.declared.line.LineNo.{LineNo}
use Rattle.rma_call.specs.Call.{Call, CallTable}
use Rattle.rma_call.specs.Group.{group_of}
use Rattle.rma_call.specs.declared.group.Group.TheVariants as group
use Rattle.rma_call.specs.declared.what.What.{What}
use Rattle.rma_call.specs.declared.what.What.TheVariants.{Sync, Rma, Local}
use Rattle.rma_call.specs.declared.what.SyncCall.TheVariants as sync
use Rattle.rma_window.specs.Windows.{Window, number_of}
use Rattle.rma_open.specs.declared.opening.Opening.{Opening}
use Rattle.rma_open.specs.Calls.{window_on}
use Rattle.rma_open.specs.Open.{is_unclosed, open_on}
use Rattle.rma_open.specs.Reaching.{opening_in}
use Rattle.rma_epoch.specs.Fault.{fault_from, leaves_open}
use Rattle.rma_epoch.specs.Table.{AreEpochs, Epochs, close_of, epoch_with, epochs_of, index_at, index_in, opened_by, opened_from, opened_on, opening_at, placed_from, placed_of, sound_from}
use Rattle.rma_epoch.proofs.PartLemmas.{none_told}

-- a call of another group is on no window
pub on_none : (what : What) → (group_of what ≡ group.Epoch → ⊥) → (group_of what ≡ group.Rma → ⊥) → (group_of what ≡ group.Window → ⊥) → window_on what ≡ None
on_none (Sync (sync.Frame call)) epoch rma window = refl
on_none (Sync (sync.Message call)) epoch rma window = refl
on_none (Sync (sync.Window call)) epoch rma window = absurd (window refl)
on_none (Sync (sync.Epoch call)) epoch rma window = absurd (epoch refl)
on_none (Sync (sync.Moving call)) epoch rma window = refl
on_none (Rma call) epoch rma window = absurd (rma refl)
on_none (Local call) epoch rma window = refl

-- nothing is at fault with a rank that has no call on a window
pub no_fault_from : (windows : List Window) (before calls : List Call) (end : LineNo) → ((some : List Call) → list_any (leaves_open some) before ≡ false) →
    ((i : ℕ) (call : Call) → slice_get calls i ≡ Some call → window_on call.what ≡ None) → fault_from windows before calls end ≡ None
no_fault_from windows before [] end closed none = rw (closed before) refl
no_fault_from windows before (call ∷ calls) end closed none =
    let on : window_on call.what ≡ None = none 0 call refl in
    let later = no_fault_from windows (before ++ call ∷ []) calls end (λ some. list_any-append (leaves_open some) before (call ∷ []) ∙ ap (λ b. b || (leaves_open some call || false)) (closed some)
    ∙ ap (λ o. option_map_or (λ window. is_unclosed (open_on some window)) o false || false) on) (λ i c at. none (suc i) c at) in
    rw on later

-- all calls of a rank are sound that has no call on a window
pub all_sound : (windows : List Window) (before calls : List Call) → ((i : ℕ) (call : Call) → slice_get calls i ≡ Some call → window_on call.what ≡ None) → sound_from windows before calls ≡ calls
all_sound windows before [] none = refl
all_sound windows before (call ∷ calls) none =
    let on : window_on call.what ≡ None = none 0 call refl in
    rw on (ap (λ (rest : List Call). call ∷ rest) (all_sound windows (before ++ call ∷ []) calls (λ i c at. none (suc i) c at)))

-- they open nothing
pub none_opened : (windows : List Window) (n : ℕ) (calls : List Call) → ((i : ℕ) (call : Call) → slice_get calls i ≡ Some call → window_on call.what ≡ None) → opened_from windows n calls ≡ []
none_opened windows n [] none = refl
none_opened windows n (call ∷ calls) none =
    let on : window_on call.what ≡ None = none 0 call refl in
    let nothing : opened_by windows n call.what ≡ None = ap (λ o. option_and_then (opened_on n call.what) (option_and_then (number_of windows) o)) on in
    ap (λ o. cons_option o (opened_from windows (n + 1) calls)) nothing ∙ none_opened windows (n + 1) calls (λ i c at. none (suc i) c at)

-- and stand in nothing
pub none_placed : (windows : List Window) (before calls : List Call) → ((i : ℕ) (call : Call) → slice_get calls i ≡ Some call → window_on call.what ≡ None) → placed_from windows before calls ≡ []
none_placed windows before [] none = refl
none_placed windows before (call ∷ calls) none =
    let on : window_on call.what ≡ None = none 0 call refl in
    let nothing : opening_at before call ≡ None = ap (option_and_then (λ window. opening_in (open_on before window) call.what)) on in
    let index : index_at windows before call ≡ None = ap (option_and_then (λ (o : Opening). index_in (epochs_of windows before) o.opener)) nothing in
    ap (λ (o : Option ℕ). cons_option (option_map (λ i. record { call = length before; epoch = i }) o) (placed_from windows (before ++ call ∷ []) calls)) index
    ∙ none_placed windows (before ++ call ∷ []) calls (λ i c at. none (suc i) c at)

-- their table
pub table_of_none : (windows : List Window) (table : CallTable) (own : Epochs) → ((i : ℕ) (call : Call) → slice_get table.calls i ≡ Some call → window_on call.what ≡ None)
    → own.sound ≡ length table.calls → own.epochs ≡ [] → own.placed ≡ [] → own.parts ≡ [] → AreEpochs windows table own
table_of_none windows table own none sound epochs placed parts =
    let all = all_sound windows [] table.calls none in
    record {
      sound = sound ∙ ap length (sym all);
      epochs = epochs ∙ sym (ap (map (epoch_with (close_of table.calls))) (none_opened windows 0 table.calls none)) ∙ ap (epochs_of windows) (sym all);
      placed = placed ∙ sym (none_placed windows [] table.calls none) ∙ ap (placed_of windows) (sym all);
      parts = none_told windows table none own.parts parts;
    }
