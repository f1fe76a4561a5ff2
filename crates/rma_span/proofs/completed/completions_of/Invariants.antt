use Rattle.std.proofs.Common.{List, take}
use Rattle.rma_completion.specs.inside.Kept.{Represents}
use Rattle.rma_epoch.specs.Table.{AreParts}
use Rattle.rma_window.specs.Windows.{Window}
use Rattle.rma_span.proofs.completed.completions_of.Given as goal

-- what the calls before complete is kept
abbrev pub invariant-loop-number : goal.invariant-loop-number
invariant-loop-number l = (windows : List Window) → AreParts windows l.calls l.parts → Represents windows (take l.number l.calls.calls) l.own
