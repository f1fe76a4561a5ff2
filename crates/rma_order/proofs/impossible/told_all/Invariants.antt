use Rattle.std.proofs.Common.{◌≡◌, take}
use Rattle.rma_order.specs.Impossible.{told_all}
use Rattle.rma_order.proofs.impossible.told_all.Given as goal

abbrev pub invariant-loop-rank : goal.invariant-loop-rank
invariant-loop-rank l = l.found ≡ told_all (take l.rank l.ranks) l.firsts
