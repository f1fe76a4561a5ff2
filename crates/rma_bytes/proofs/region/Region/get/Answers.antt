use Rattle.std.proofs.Common.{w64}
use Rattle.rma_bytes.proofs.RegionLemmas.{distance_fits, moved_at, moved_at_within}
use Rattle.std.proofs.lemmas.Int.{to_z-of_z}
use Rattle.rma_bytes.proofs.region.Region.get.Goals as goal

pub moved-requires : goal.moved-requires
moved-requires c =
    let good = rw c.in-Several.is at c.self.invariant in
    rw (to_z-of_z w64 c.in-Several.by (distance_fits c.in-Several.by c.in-Several.runs.value good.0 good.1 good.2))
    (moved_at_within c.in-Several.by c.in-Several.runs.value c.args.i c.get.result (rw c.deref.ensures at c.get.ensures.value) good.2)

pub returns-in-Several : goal.returns-in-Several
returns-in-Several c =
    let good = rw c.in-Several.is at c.self.invariant in
    rw (← c.self.view_is, c.in-Several.is, c.moved.ensures, to_z-of_z w64 c.in-Several.by (distance_fits c.in-Several.by c.in-Several.runs.value good.0 good.1 good.2))
    (moved_at c.in-Several.by c.in-Several.runs.value c.args.i c.get.result (rw c.deref.ensures at c.get.ensures.value))
