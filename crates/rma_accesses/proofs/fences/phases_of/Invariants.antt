use Rattle.std.proofs.Common.{map, take}
use Rattle.std.specs.List.{flat_map}
use Rattle.rma_fenced.specs.Fenced.{HasSame, accessed_by}
use Rattle.rma_accesses.specs.Run.{own_of}
use Rattle.rma_accesses.proofs.fences.phases_of.Given as goal

-- the phases of the accesses of the ranks before
abbrev pub invariant-loop-own : goal.invariant-loop-own
invariant-loop-own l = HasSame l.phases (flat_map (accessed_by l.ranks l.epochs.windows) (take l.own-index (map own_of l.epochs.ranks.items)))
