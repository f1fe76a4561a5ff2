use Rattle.std.proofs.Common.{◌≡◌, ◌++◌, map}
use Rattle.std.specs.Vec.Iter.{into_iter_items}
use Rattle.rma_finding.specs.declared.finding.PairFinding.TheVariants.{Exposed}
use Rattle.rma_report.specs.declared.finding.Finding.TheVariants.{Pair}
use Rattle.rma_stream.proofs.pairs.push_exposed.Given as goal

-- the first are pushed, and the others are left
abbrev pub invariant-loop-lock : goal.invariant-loop-lock
invariant-loop-lock l =
    (goal.iterator-loop-lock).can_next l.lock-iterator × (goal.iterator-loop-lock).is_finite l.lock-iterator × (l.fn.locks.items ≡ l.yielded ++ into_iter_items l.lock-iterator)
    × (l.list ≡ l.initial.list ++ map (λ lock. Pair (Exposed lock)) l.yielded)
