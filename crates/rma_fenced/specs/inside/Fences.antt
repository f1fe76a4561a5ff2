-- The last fences of a rank, as they are kept: by their windows.
use Rattle.std.specs.Prelude.{◌==◌, [], ◌++◌, List, Bool, Option}
use Rattle.std.specs.List.{cons_option}
use Rattle.std.specs.Map.{lookup}
use Rattle.rma_window.specs.declared.window_id.WindowId.{WindowId}
use Rattle.rma_rules.specs.declared.span.Exposure.{Exposure}
use Rattle.rma_rules.specs.Spans.{Spans}
use Rattle.rma_fenced.specs.declared.listing.FenceCall.{FenceCall}

-- whether a window is this one
abbrev pub is_id : WindowId → WindowId → Bool
is_id window other = window.0 == other.0

-- the last fence that is kept of a window
abbrev pub last_in : List (WindowId × FenceCall) → WindowId → Option FenceCall
last_in fences window = lookup (is_id window) fences

-- the lists with one more exposure, if there is one
abbrev pub with_exposure : Spans → Option Exposure → Spans
with_exposure spans exposure = record spans { exposures = spans.exposures ++ cons_option exposure [] }
