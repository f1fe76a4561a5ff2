-- The calls of a rank that concern a window (MPI 4.0, "One-Sided Communications").
use Rattle.std.specs.Prelude.{ℕ, ◌+◌, List, [], ◌∷◌, Bool, false, Option, Some, None, nat_eq, if◌then◌else◌}
use Rattle.std.specs.Option.{option_and_then, option_map_or}
use Rattle.std.specs.Cmp.Lexicographic.{pointwise}
use Rattle.rma_call.specs.Call.{Call}
use Rattle.rma_call.specs.declared.what.What.{What}
use Rattle.rma_call.specs.declared.what.What.TheVariants.{Sync, Rma}
use Rattle.rma_call.specs.declared.what.SyncCall.TheVariants.{Epoch, Window}
use Rattle.rma_call.specs.declared.window.WindowCall.TheVariants.{Free}
use Rattle.rma_call.specs.declared.epoch.EpochCall.{EpochCall}
use Rattle.rma_call.specs.declared.epoch.EpochCall.TheVariants.{Fence, Post, Start, Complete, Expwait, Lock, Unlock, LockAll, UnlockAll, Flush, FlushAll, FlushLocal, FlushLocalAll}
use Rattle.rma_call.specs.declared.epoch.EpochCall.TheVariants as epoch
use Rattle.rma_window.specs.declared.part.Part.{Part}
use Rattle.rma_window.specs.declared.window_id.WindowId.{WindowId}
use Rattle.rma_window.specs.Windows.{number_of, part_named}
use Rattle.rma_window.specs.Windows as table

-- the window of a call that opens, completes or closes an epoch
abbrev pub window_in : EpochCall → List ℕ
window_in (Fence window assertions) = window
window_in (Post window origins assertions) = window
window_in (Start window targets assertions) = window
window_in (Complete window) = window
window_in (Expwait window) = window
window_in (Lock window target kind assertions) = window
window_in (Unlock window target) = window
window_in (LockAll window assertions) = window
window_in (UnlockAll window) = window
window_in (Flush window target) = window
window_in (FlushAll window) = window
window_in (FlushLocal window target) = window
window_in (FlushLocalAll window) = window
window_in (epoch.Sync window) = window

-- the window that a call is on: that of an epoch, of an access to a target, or of a free
abbrev pub window_on : What → Option (List ℕ)
window_on (Sync (Epoch call)) = Some (window_in call)
window_on (Sync (Window (Free window))) = Some window
window_on (Rma call) = Some call.window
window_on _ = None

-- the number of the window that a call is on, where it is one of the run
abbrev pub number_on : List table.Window → What → Option WindowId
number_on windows what = option_and_then (number_of windows) (window_on what)

-- the part of the target of a call, where it is an access to a target that has a part of its window
abbrev pub part_on : List table.Window → What → Option Part
part_on windows (Rma call) = option_and_then (part_named windows call.window) call.target
part_on windows _ = None

-- whether a call is on the window of this name
abbrev pub is_on : List ℕ → What → Bool
is_on window what = option_map_or (pointwise nat_eq window) (window_on what) false

-- the calls on a window with their numbers, the latest first, behind those of calls before; the first of the calls has this number
abbrev pub past_from : List ℕ → ℕ → List (ℕ × What) → List Call → List (ℕ × What)
past_from window number past [] = past
past_from window number past (call ∷ calls) = past_from window (number + 1) (if is_on window call.what then (number, call.what) ∷ past else past) calls

-- those of a rank's calls that are on a window, with their numbers, the latest first
abbrev pub past_on : List ℕ → List Call → List (ℕ × What)
past_on window calls = past_from window 0 [] calls

-- the numbers of the ranks that a call names: its target, or those of its group
abbrev pub named_by : What → List ℕ
named_by (Rma call) = option_map_or (λ target. target.0 ∷ []) call.target []
named_by (Sync (Epoch (Lock window target kind assertions))) = target.0 ∷ []
named_by (Sync (Epoch (Unlock window target))) = target.0 ∷ []
named_by (Sync (Epoch (Flush window target))) = target.0 ∷ []
named_by (Sync (Epoch (FlushLocal window target))) = target.0 ∷ []
named_by (Sync (Epoch (Post window origins assertions))) = origins
named_by (Sync (Epoch (Start window targets assertions))) = targets
named_by _ = []
