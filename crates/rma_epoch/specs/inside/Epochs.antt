-- How the epochs of a rank are kept.
use Rattle.std.specs.Prelude.{ℕ, List, [], ◌++◌, map, Option, Some, option_map, if◌then◌else◌}
use Rattle.std.specs.List.{cons_option}
use Rattle.std.specs.Option.{option_and_then}
use Rattle.rma_call.specs.declared.what.What.{What}
use Rattle.rma_window.specs.declared.window_id.WindowId.{WindowId}
use Rattle.rma_epoch.specs.declared.epoch.Epoch.{Epoch}
use Rattle.rma_epoch.specs.declared.epoch.Placed.{Placed}
use Rattle.rma_epoch.specs.declared.placements.Placement.{Placement}
use Rattle.rma_epoch.specs.Table.{index_in, is_opener, opened_on}

-- an epoch after the call of a number, which closes what this call opened
abbrev pub closed_with : Option ℕ → ℕ → Epoch → Epoch
closed_with opener number epoch = if is_opener epoch.opener opener then record epoch { close = Some number } else epoch

-- the epochs after the call of this number, where it is on this window, and closes what this call opened
abbrev pub epochs_with : ℕ → What → Option WindowId → Option ℕ → List Epoch → List Epoch
epochs_with number what window closes epochs = map (closed_with closes number) epochs ++ cons_option (option_and_then (opened_on number what) window) []

-- the index of the epoch in which a call stands, among these
abbrev pub index_of_opening : List Epoch → Placement → Option ℕ
index_of_opening epochs placement = option_and_then (λ opening. index_in epochs opening.opener) placement.opening

-- the accesses after the call of this number, which stands in the epoch at an index, if it is an access to a target
abbrev pub placed_with : ℕ → Option ℕ → List Placed → List Placed
placed_with number index placed = placed ++ cons_option (option_map (λ i. record { call = number; epoch = i }) index) []
