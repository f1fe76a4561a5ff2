use Rattle.std.proofs.Common.{◌≡◌, List, length, take}
use Rattle.rma_call.specs.Call.{RankCalls}
use Rattle.rma_agreement.specs.Collective.{so_far}
use Rattle.rma_difference.specs.inside.Scan.{HasScanned}
use Rattle.rma_difference.proofs.scan.Scan.scan_rank.Given as goal

-- the calls so far are scanned
abbrev pub invariant-loop-i : goal.invariant-loop-i
invariant-loop-i l = (done : List RankCalls) → length done ≡ l.index → HasScanned done l.index l.initial.self →
    HasScanned (so_far done l.rank (take l.i l.rank.calls)) l.index l.self
