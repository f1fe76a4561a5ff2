use Rattle.std.proofs.Common.{map}
use Rattle.rma_accesses.specs.Run.{own_of}
use Rattle.rma_accesses.specs.inside.Listing.{AreFirst}
use Rattle.rma_accesses.proofs.lists.posted_lists.Given as goal

-- what is listed of the ranks before
abbrev pub invariant-loop-own : goal.invariant-loop-own
invariant-loop-own l = AreFirst l.epochs.windows (map own_of l.epochs.ranks.items) l.own-index l.spans
