use Rattle.std.proofs.Common.{◌+◌, ◌-◌, ◌≤◌, length, drop}
use Rattle.rma_bytes.proofs.WalkLemmas.{IsSharing}
use Rattle.rma_bytes.proofs.overlap.shared.Given as goal

abbrev pub invariant-walk : goal.invariant-walk
invariant-walk l = record {
  sharing : IsSharing l.mine l.theirs l.runs.items (drop l.i l.mine) (drop l.j l.theirs);
  mine_in : l.i ≤ length l.mine;
  theirs_in : l.j ≤ length l.theirs;
  short : length l.runs.items ≤ l.i + l.j;
  room : 4 ≤ l.runs.capacity;
}

abbrev pub decreases-walk : goal.decreases-walk
decreases-walk l = (length l.mine - l.i) + (length l.theirs - l.j)
