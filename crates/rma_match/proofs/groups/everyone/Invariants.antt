use Rattle.std.proofs.Common.{◌≡◌}
use Rattle.std.specs.List.{range_with_len}
use Rattle.rma_match.proofs.groups.everyone.Given as goal

-- the ranks before are there
abbrev pub invariant-loop-rank : goal.invariant-loop-rank
invariant-loop-rank l = l.numbers ≡ range_with_len 0 l.rank
