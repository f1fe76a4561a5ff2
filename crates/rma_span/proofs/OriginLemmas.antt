-- What is known of the epochs of a rank.
use Rattle.std.proofs.Common.{◌≡◌, ◌<◌, ◌≤◌, List, length, Bool, true, false, nat_lt, ap, refl, arith}
use Rattle.std.specs.List.Sorted.{IsNonDecreasingBy}
use Rattle.std.proofs.lemmas.Bool.Decides.{nat_tests}
use Rattle.std.proofs.lemmas.Option.{slice_get-get_or}
use Rattle.std.specs.Prelude.{slice_index_or}
use Rattle.rma_call.specs.Call.{Call}
use Rattle.rma_epoch.specs.declared.epoch.Epoch.{Epoch}
use Rattle.rma_epoch.specs.Table.{epochs_of}
use Rattle.rma_epoch.proofs.TableLemmas.{epochs_ascend}
use Rattle.rma_window.specs.Windows.{Window}

-- epochs come in the order of the calls that open them
pub openers_ascend : (windows : List Window) (calls : List Call) → IsNonDecreasingBy (λ (epoch : Epoch). epoch.opener) (epochs_of windows calls)
openers_ascend windows calls i j d le lt = by (nat_lt i j) refl
  where
    by : (b : Bool) → nat_lt i j ≡ b → (slice_index_or (epochs_of windows calls) i d).opener ≤ (slice_index_or (epochs_of windows calls) j d).opener
    by true h =
        let epochs = epochs_of windows calls in
        let earlier : i < j = grind (arith, nat_tests) in
        let less = epochs_ascend windows calls i j (slice_index_or epochs i d) (slice_index_or epochs j d) earlier
        (slice_get-get_or epochs i d (let within : i < length epochs = omega arith in within)) (slice_get-get_or epochs j d lt) in
        omega arith
    by false h =
        let same : i ≡ j = grind (arith, nat_tests) in
        let equal = ap (λ k. (slice_index_or (epochs_of windows calls) k d).opener) same in
        omega arith
