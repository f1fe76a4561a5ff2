use Rattle.std.proofs.Common.{◌+ℤ◌, arith, w64}
use Rattle.std.proofs.lemmas.Int.{ints, to_z-of_z}
use Rattle.std.proofs.lemmas.Option.{slice_get_within}
use mir.Val.{SFits}
use Rattle.rma_bytes.specs.Runs.{IsInBounds, moved}
use Rattle.rma_bytes.proofs.RegionLemmas.{distance_is_small, moved_at, moved_at_within, start_fits}
use Rattle.rma_rules.proofs.BytesLemmas.{in_bounds}
use Rattle.rma_rules.proofs.bytes.Bytes.get.Goals as goal

pub overflow_add-result : goal.overflow_add-result
overflow_add-result c =
    let runs = c.self.inside.layout.runs in
    let by = c.self.inside.by in
    let run = c.get-run.result in
    let at = c.get-run.ensures in
    let before : IsInBounds run = in_bounds runs c.args.i run c.self.invariant.0 at in
    let after : IsInBounds (moved by run) = moved_at_within by runs c.args.i run at c.self.invariant.1 in
    let within = slice_get_within runs c.args.i run at in
    let small = distance_is_small by runs (omega arith) c.self.invariant.0 c.self.invariant.1 in
    let fits : SFits w64 by = omega (arith, ints) in
    rw (to_z-of_z w64 run.start (start_fits run before), to_z-of_z w64 by fits) (omega (arith, ints, after.0, after.1))

pub returns : goal.returns
returns c =
    let runs = c.self.inside.layout.runs in
    let by = c.self.inside.by in
    let run = c.get-run.result in
    let at = c.get-run.ensures in
    let before : IsInBounds run = in_bounds runs c.args.i run c.self.invariant.0 at in
    let after : IsInBounds (moved by run) = moved_at_within by runs c.args.i run at c.self.invariant.1 in
    let within = slice_get_within runs c.args.i run at in
    let small = distance_is_small by runs (omega arith) c.self.invariant.0 c.self.invariant.1 in
    let fits : SFits w64 by = omega (arith, ints) in
    let sum_fits : SFits w64 (run.start +ℤ by) = omega (arith, ints, after.0, after.1) in
    rw (← c.self.view_is, to_z-of_z w64 run.start (start_fits run before), to_z-of_z w64 by fits, to_z-of_z w64 (run.start +ℤ by) sum_fits)
    (moved_at by runs c.args.i run at)
