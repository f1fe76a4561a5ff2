use Rattle.std.proofs.Common.{◌≡◌, ◌+ℤ◌, ℕ, List, slice_get, Some, sym, arith, w64}
use Rattle.std.proofs.lemmas.Int.{ints, to_z-of_z}
use Rattle.std.proofs.lemmas.Option.{get_or_from_slice_get, slice_get_within}
use mir.Val.{SFits}
use Rattle.rma_bytes.specs.Runs.{IsCanonical, IsInBounds}
use Rattle.rma_bytes.specs.declared.run.Run.{Run}
use Rattle.rma_bytes.proofs.RegionLemmas.{moved_at, start_fits}
use Rattle.rma_bytes.proofs.RunLemmas.{canonical_at, no_run}
use Rattle.rma_bytes.proofs.moved_layout.MovedLayout.get.Goals as goal

in_bounds : (runs : List Run) (i : ℕ) (run : Run) → IsCanonical runs → slice_get runs i ≡ Some run → IsInBounds run
in_bounds runs i run canonical at =
    rw (sym (get_or_from_slice_get runs i run no_run at)) (canonical_at runs i no_run canonical (slice_get_within runs i run at)).0

pub overflow_add-result : goal.overflow_add-result
overflow_add-result c =
    let run = c.get-run.result in
    let within : IsInBounds run = in_bounds c.self.inside.layout.now.runs c.args.i run c.is_empty-in_order.ensures.in_order c.get-run.ensures in
    let far = c.bytes.ensures.far in
    let fits : SFits w64 c.bytes.result = omega (arith, ints, c.bytes.ensures.number, far.down, far.up) in
    rw (to_z-of_z w64 run.start (start_fits run within), to_z-of_z w64 c.bytes.result fits) (omega (arith, ints, within.0, within.1, c.bytes.ensures.number, far.down, far.up))

pub returns : goal.returns
returns c =
    let run = c.get-run.result in
    let by = c.self.inside.by in
    let within : IsInBounds run = in_bounds c.self.inside.layout.now.runs c.args.i run c.is_empty-in_order.ensures.in_order c.get-run.ensures in
    let far = c.bytes.ensures.far in
    let fits : SFits w64 by = omega (arith, ints, far.down, far.up) in
    let sum_fits : SFits w64 (run.start +ℤ by) = omega (arith, ints, within.0, within.1, far.down, far.up) in
    rw (← c.self.view_is, c.bytes.ensures.number, to_z-of_z w64 run.start (start_fits run within), to_z-of_z w64 by fits, to_z-of_z w64 (run.start +ℤ by) sum_fits)
    (moved_at by c.self.inside.layout.now.runs c.args.i run c.get-run.ensures)
