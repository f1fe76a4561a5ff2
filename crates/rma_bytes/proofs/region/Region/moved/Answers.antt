use Rattle.std.proofs.Common.{[], ◌∷◌, w64, ◌∙◌, sym}
use Rattle.std.proofs.lemmas.Int.{to_z-of_z}
use Rattle.rma_bytes.proofs.IndexLemmas.{canonical_moved}
use Rattle.rma_bytes.proofs.RegionLemmas.{distance_fits, moved_on, moved_twice}
use Rattle.rma_bytes.proofs.region.Region.moved.Goals as goal

pub moved-requires : goal.moved-requires
moved-requires c =
    let good = rw c.in-One.is at c.self.invariant in
    let within = rw (← c.self.view_is, c.in-One.is) at c.requires in
    rw (to_z-of_z w64 c.args.by c.ranges.by) (canonical_moved c.args.by (c.in-One.run' ∷ []) good within).0

pub invariant_of-result-in-One : goal.invariant_of-result-in-One
invariant_of-result-in-One c =
    let good = rw c.in-One.is at c.self.invariant in
    let within = rw (← c.self.view_is, c.in-One.is) at c.requires in
    rw (c.moved.ensures, to_z-of_z w64 c.args.by c.ranges.by) (canonical_moved c.args.by (c.in-One.run' ∷ []) good within)

pub overflow_add-sum : goal.overflow_add-sum
overflow_add-sum c =
    let good = rw c.in-Several.is at c.self.invariant in
    let within = rw (← c.self.view_is, c.in-Several.is) at c.requires in
    let sum = moved_on c.in-Several.so_far c.args.by c.in-Several.runs.value good.2 within in
    rw (to_z-of_z w64 c.in-Several.so_far (distance_fits c.in-Several.so_far c.in-Several.runs.value good.0 good.1 good.2), to_z-of_z w64 c.args.by c.ranges.by)
    (distance_fits _ c.in-Several.runs.value good.0 good.1 sum)

pub several-requires-clause-within : goal.several-requires-clause-within
several-requires-clause-within c =
    let good = rw c.in-Several.is at c.self.invariant in
    let within = rw (← c.self.view_is, c.in-Several.is) at c.requires in
    let sum = moved_on c.in-Several.so_far c.args.by c.in-Several.runs.value good.2 within in
    rw (
      to_z-of_z w64 c.in-Several.so_far (distance_fits c.in-Several.so_far c.in-Several.runs.value good.0 good.1 good.2),
      to_z-of_z w64 c.args.by c.ranges.by,
      to_z-of_z w64 _ (distance_fits _ c.in-Several.runs.value good.0 good.1 sum),
      c.in_ok-clone-in-Several.ensures.cases,
    ) sum

pub returns-in_ok-clone-in-Several-clause-moved : goal.returns-in_ok-clone-in-Several-clause-moved
returns-in_ok-clone-in-Several-clause-moved c =
    let good = rw c.in-Several.is at c.self.invariant in
    let within = rw (← c.self.view_is, c.in-Several.is) at c.requires in
    let sum = moved_on c.in-Several.so_far c.args.by c.in-Several.runs.value good.2 within in
    let is = rw (
      to_z-of_z w64 c.in-Several.so_far (distance_fits c.in-Several.so_far c.in-Several.runs.value good.0 good.1 good.2),
      to_z-of_z w64 c.args.by c.ranges.by,
      to_z-of_z w64 _ (distance_fits _ c.in-Several.runs.value good.0 good.1 sum),
      c.in_ok-clone-in-Several.ensures.cases,
    ) at c.several.ensures in
    rw (← c.self.view_is, c.in-Several.is) (is ∙ sym (moved_twice c.in-Several.so_far c.args.by c.in-Several.runs.value))
