use Rattle.std.proofs.Common.{◌≡◌, ◌++◌, take}
use Rattle.rma_run.specs.Run.{by_number}
use Rattle.rma_dyn.specs.Change.{changes_of}
use Rattle.rma_dyn.proofs.changes.add_rank.Given as goal

-- those of the calls before are there
abbrev pub invariant-loop-i : goal.invariant-loop-i
invariant-loop-i l = l.list.items ≡ l.initial.list.items ++ by_number (changes_of l.windows l.own.rank) 0 (take l.i l.own.calls)
