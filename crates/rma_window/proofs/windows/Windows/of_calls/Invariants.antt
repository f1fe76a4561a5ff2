use Rattle.std.proofs.Common.{◌≡◌, take}
use Rattle.rma_window.specs.Creation.{creations}
use Rattle.rma_window.specs.Windows.{windows_by}
use Rattle.rma_window.proofs.windows.Windows.of_calls.Given as goal

-- the calls of the ranks before are taken
abbrev pub invariant-loop-rank : goal.invariant-loop-rank
invariant-loop-rank l = l.windows ≡ windows_by (creations (take l.rank-index l.ranks))
