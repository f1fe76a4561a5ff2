use Rattle.std.proofs.Common.{map, take, string_bytes}
use Rattle.rma_audit.specs.inside.Opening.{HasOpened}
use Rattle.rma_audit.proofs.opening.open_all.Given as goal

-- the names so far were opened
abbrev pub invariant-loop-name : goal.invariant-loop-name
invariant-loop-name g l =
    HasOpened (g.L.Pulls.source l.fn.logs) (g.L.Pulls.source l.logs) (g.L.Logs.opened l.logs) (map string_bytes (take l.name-index l.names))
