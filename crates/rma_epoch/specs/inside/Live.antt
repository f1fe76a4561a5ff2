-- What is kept of the epochs of a rank.
use Rattle.std.specs.Prelude.{◌≡◌, List, None, length, is_none, if◌then◌else◌}
use Rattle.rma_call.specs.Call.{Call}
use Rattle.rma_window.specs.Windows.{Window}
use Rattle.rma_epoch.specs.declared.live.LiveEpochs.{LiveEpochs}
use Rattle.rma_epoch.specs.declared.live.Taken.{Taken}
use Rattle.rma_open.specs.Reason.{reason_at}
use Rattle.rma_epoch.specs.Table.{closing_at, epochs_of, index_at, placed_of}
use Rattle.rma_epoch.specs.inside.Windows.{IsOpenAfter}

-- what is kept represents what these calls of a rank leave open
pub record Represents (calls : List Call) (live : LiveEpochs) : Type 0 where
  pub open_is : IsOpenAfter calls live.windows
  pub taken_are : live.taken ≡ length calls

-- the epochs that are kept are those of these calls on the windows of this table, and so are the accesses that stand in them
pub record HasEpochs (windows : List Window) (calls : List Call) (live : LiveEpochs) : Type 0 where
  pub epochs_are : live.placements.epochs.items ≡ epochs_of windows calls
  pub placed_are : live.placements.placed.items ≡ placed_of windows calls

-- what comes of a call that comes after these
abbrev pub taken_of : List Window → List Call → Call → Taken
taken_of windows calls call = if is_none (reason_at windows calls call) then record { reason = None; epoch = index_at windows calls call; closes = closing_at windows calls call } else record { reason = reason_at windows calls call; epoch = None; closes = None }
