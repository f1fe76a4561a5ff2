use Rattle.std.proofs.Common.{rules, w64, to_z, of_z, subst}
use Rattle.std.specs.Prelude.{ℤ}
use Rattle.std.specs.Int.RustNames.{FitsSigned}
use Rattle.std.proofs.lemmas.Int.{to_z-of_z}
use Rattle.std.specs.Ordering.{int_cmp}
use Rattle.std.specs.declared.ops.Bound.TheVariants.{Unbounded, Excluded}
use Rattle.std.specs.BTreeMap.Range.{IsRangeOf}
use Rattle.rma_cells.specs.inside.Table.{table}
use Rattle.rma_cells.proofs.MapLemmas.{last_entry, is_last}
use Rattle.rma_cells.proofs.cell_map.last_before.Goals as goal

pub returns : goal.returns
returns c =
    let raw : IsRangeOf int_cmp Unbounded (Excluded (to_z w64 (of_z w64 c.args.at))) c.args.map.now c.range.result = c.range.ensures.in_range tt in
    let part : IsRangeOf int_cmp Unbounded (Excluded c.args.at) c.args.map.now c.range.result = subst (λ (x : ℤ). IsRangeOf int_cmp Unbounded (Excluded x) c.args.map.now c.range.result) (to_z-of_z w64 c.args.at c.ranges.at) raw in
    let start = c.in_ok-start.start.now in
    let cell = c.in_ok-start.cell.now in
    let fits : FitsSigned w64 start = search rules in
    let end_fits : FitsSigned w64 c.end.result = search rules in
    is_last (table c.args.map.now) c.args.at start c.end.result _ _ cell (to_z-of_z w64 start fits) (to_z-of_z w64 c.end.result end_fits)
    (last_entry c.args.map.now c.args.at c.range.result start cell c.next_back.new.self part c.in_ok-start.ensures.steps) c.end.ensures
