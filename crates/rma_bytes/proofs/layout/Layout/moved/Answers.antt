use Rattle.std.proofs.Common.{[], ◌∷◌, w64}
use Rattle.std.proofs.lemmas.Int.{to_z-of_z}
use Rattle.rma_bytes.specs.inside.Layout.{run_of}
use Rattle.rma_bytes.specs.Runs.{moved}
use Rattle.rma_bytes.proofs.IndexLemmas.{canonical_moved}
use Rattle.rma_bytes.proofs.RegionLemmas.{start_fits}
use Rattle.rma_bytes.proofs.layout.Layout.moved.Goals as goal

pub moved-run-requires : goal.moved-run-requires
moved-run-requires c =
    let it = run_of c.in-Elements.element c.in-Elements.count c.in-Elements.start in
    let good = rw c.in-Elements.is at c.self.invariant in
    let within = rw (← c.self.view_is, c.in-Elements.is) at c.requires in
    rw (c.run_of.ensures, to_z-of_z w64 c.in-Elements.start (start_fits it good.0), to_z-of_z w64 c.args.by c.ranges.by) (canonical_moved c.args.by (it ∷ []) good within).0

pub side_by_side-requires : goal.side_by_side-requires
side_by_side-requires c =
    let it = run_of c.in-Elements.element c.in-Elements.count c.in-Elements.start in
    let good = rw c.in-Elements.is at c.self.invariant in
    let within = rw (← c.self.view_is, c.in-Elements.is) at c.requires in
    let then = canonical_moved c.args.by (it ∷ []) good within in
    let is = rw (c.run_of.ensures, to_z-of_z w64 c.in-Elements.start (start_fits it good.0), to_z-of_z w64 c.args.by c.ranges.by) at c.moved-run.ensures in
    rw (is, to_z-of_z w64 (moved c.args.by it).start (start_fits (moved c.args.by it) then.0)) then
