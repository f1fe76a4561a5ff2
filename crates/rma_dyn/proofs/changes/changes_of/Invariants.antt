use Rattle.std.proofs.Common.{◌≡◌, take}
use Rattle.rma_dyn.specs.Change.{changes}
use Rattle.rma_dyn.proofs.changes.changes_of.Given as goal

-- those of the ranks before are there
abbrev pub invariant-loop-own : goal.invariant-loop-own
invariant-loop-own l = l.list.items ≡ changes l.windows (take l.own-index l.ranks)
