use Rattle.std.proofs.Common.{◌≡◌, map, take}
use Rattle.std.specs.List.{filter_map}
use Rattle.rma_accesses.specs.Run.{own_of}
use Rattle.rma_stream.specs.Findings.{epoch_finding}
use Rattle.rma_stream.proofs.epochs.epoch_findings.Given as goal

-- what is found of the ranks before
abbrev pub invariant-loop-own : goal.invariant-loop-own
invariant-loop-own l = l.list ≡ filter_map (epoch_finding l.epochs.windows) (take l.own-index (map own_of l.epochs.ranks.items))
