use Rattle.std.proofs.Common.{◌≡◌, map, take}
use Rattle.std.specs.Prelude.{All}
use Rattle.rma_accesses.specs.Run.{own_of}
use Rattle.rma_accesses.specs.inside.Kept.{IsAccessesOf, rank_of}
use Rattle.rma_accesses.proofs.accesses.each_of.Given as goal

-- the accesses of the ranks before
abbrev pub invariant-loop-own : goal.invariant-loop-own
invariant-loop-own l = record {
  ranks : map rank_of l.list.items ≡ take l.own-index (map own_of l.epochs.ranks.items);
  each : All (IsAccessesOf l.ranks) l.list.items;
}
