use Rattle.std.proofs.Common.{◌≡◌, take}
use Rattle.std.specs.Prelude.{fold}
use Rattle.rma_window.specs.Creation.{creations_from}
use Rattle.rma_window.specs.Windows.{with_creation}
use Rattle.rma_window.proofs.windows.Windows.take_all.Given as goal

-- the calls before are taken
abbrev pub invariant-loop-i : goal.invariant-loop-i
invariant-loop-i l = l.self ≡ fold with_creation l.fn.self (creations_from l.rank.rank 0 (take l.i l.rank.calls))
