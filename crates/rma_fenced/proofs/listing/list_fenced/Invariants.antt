use Rattle.std.proofs.Common.{◌≡◌, List, take}
use Rattle.rma_epoch.specs.Table.{AreEpochs}
use Rattle.rma_window.specs.Windows.{Window}
use Rattle.rma_window.specs.declared.window_id.WindowId.{WindowId}
use Rattle.rma_fenced.specs.Fenced.{last_fence, with_fenced}
use Rattle.rma_fenced.specs.inside.Fences.{last_in}
use Rattle.rma_fenced.proofs.listing.list_fenced.Given as goal

-- the calls before are listed, and their last fences are kept
abbrev pub invariant-loop-i : goal.invariant-loop-i
invariant-loop-i l = record {
  spans : (windows : List Window) → AreEpochs windows l.calls l.table → l.spans ≡ with_fenced l.initial.spans l.phases windows l.rank (take l.i l.calls.calls);
  fences : (windows : List Window) → AreEpochs windows l.calls l.table → (window : WindowId) → last_in l.fences.entries window ≡ last_fence windows (take l.i l.calls.calls) window;
}
