use Rattle.std.proofs.Common.{◌≡◌, map, take}
use Rattle.std.specs.Prelude.{All}
use Rattle.rma_accesses.specs.Run.{IsEpochsOf, own_of}
use Rattle.rma_accesses.proofs.epochs.epochs_of.Given as goal

-- the epochs of the ranks before
abbrev pub invariant-loop-own : goal.invariant-loop-own
invariant-loop-own l = record {
  ranks : map own_of l.list.items ≡ take l.own-index l.ranks;
  each : All (IsEpochsOf l.windows) l.list.items;
}
