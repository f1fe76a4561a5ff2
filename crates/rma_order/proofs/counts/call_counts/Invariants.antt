use Rattle.std.proofs.Common.{◌≡◌, ◌<◌, ◌^◌, take}
use Rattle.std.specs.Prelude.{All}
use Rattle.rma_run.specs.Run.{lens_of}
use Rattle.rma_order.proofs.counts.call_counts.Given as goal

abbrev pub invariant-loop-own : goal.invariant-loop-own
invariant-loop-own l = (l.counts.items ≡ lens_of (take l.own-index l.ranks)) × All (λ calls. calls < 2 ^ 31) l.counts.items
