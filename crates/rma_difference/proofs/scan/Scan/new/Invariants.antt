use Rattle.std.proofs.Common.{take}
use Rattle.rma_difference.specs.inside.Scan.{HasScanned}
use Rattle.rma_difference.proofs.scan.Scan.new.Given as goal

-- the ranks so far are read
abbrev pub invariant-loop-index : goal.invariant-loop-index
invariant-loop-index l = HasScanned (take l.index l.ranks) l.index l.scan
