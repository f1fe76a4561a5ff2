use Rattle.std.proofs.Common.{◌≡◌, ◌++◌, map}
use Rattle.std.specs.Vec.Iter.{into_iter_items}
use Rattle.rma_finding.specs.declared.finding.PairFinding.TheVariants.{Doubled}
use Rattle.rma_report.specs.declared.finding.Finding.TheVariants.{Pair}
use Rattle.rma_stream.proofs.pairs.push_doubled.Given as goal

-- the first are pushed, and the others are left
abbrev pub invariant-loop-post : goal.invariant-loop-post
invariant-loop-post l =
    (goal.iterator-loop-post).can_next l.post-iterator × (goal.iterator-loop-post).is_finite l.post-iterator × (l.fn.posts.items ≡ l.yielded ++ into_iter_items l.post-iterator)
    × (l.list ≡ l.initial.list ++ map (λ post. Pair (Doubled post)) l.yielded)
