use Rattle.std.proofs.Common.{◌≡◌, ℕ, List, length}
use Rattle.rma_log.specs.inside.Reading.{IsReading}
use Rattle.rma_log.proofs.reader.read_lines.Given as goal

-- what was read at the start is read still
abbrev pub invariant-lines : goal.invariant-lines
invariant-lines l =
    ((rank logs : ℕ) (text : List ℕ) → IsReading rank logs l.fn.cutter text l.fn.reader → IsReading rank logs l.cutter text l.reader)
    × (l.cutter.closed ≡ l.fn.cutter.closed) × (l.cutter.fed ≡ l.fn.cutter.fed)

abbrev pub decreases-lines : goal.decreases-lines
decreases-lines l = length l.cutter.rest
