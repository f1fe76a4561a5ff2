use Rattle.std.proofs.Common.{◌≡◌, map, take}
use Rattle.rma_accesses.specs.Run.{own_of}
use Rattle.rma_accesses.specs.inside.Listing.{with_fences}
use Rattle.rma_accesses.proofs.fences.list_ranks.Given as goal

-- the exposures of the ranks before
abbrev pub invariant-loop-own : goal.invariant-loop-own
invariant-loop-own l = l.lists ≡ with_fences l.initial.lists l.phases l.epochs.windows (take l.own-index (map own_of l.epochs.ranks.items))
