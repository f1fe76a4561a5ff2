use Rattle.std.proofs.Common.{◌≡◌, take}
use Rattle.std.specs.List.{filter_map}
use Rattle.rma_member.specs.Difference.{difference}
use Rattle.rma_member.proofs.difference.differences.Given as goal

-- the faults of the calls so far
abbrev pub invariant-loop-declaration : goal.invariant-loop-declaration
invariant-loop-declaration g l = l.faults ≡ filter_map (difference g.T.Attributes.agrees l.reason l.declarations) (take l.declaration-index l.declaration-items)
