use Rattle.std.proofs.Common.{◌≡◌, ◌++◌, map}
use Rattle.std.specs.Vec.Iter.{into_iter_items}
use Rattle.rma_finding.specs.declared.finding.PairFinding.TheVariants.{Race}
use Rattle.rma_report.specs.declared.finding.Finding.TheVariants.{Pair}
use Rattle.rma_stream.proofs.pairs.push_races.Given as goal

-- the first are pushed, and the others are left
abbrev pub invariant-loop-race : goal.invariant-loop-race
invariant-loop-race l =
    (goal.iterator-loop-race).can_next l.race-iterator × (goal.iterator-loop-race).is_finite l.race-iterator × (l.fn.races.items ≡ l.yielded ++ into_iter_items l.race-iterator)
    × (l.list ≡ l.initial.list ++ map (λ race. Pair (Race race)) l.yielded)
