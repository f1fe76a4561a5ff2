use Rattle.std.proofs.Common.{rules, w64, to_z, of_z, subst}
use Rattle.std.specs.Prelude.{ℤ}
use Rattle.std.specs.Int.RustNames.{FitsSigned}
use Rattle.std.proofs.lemmas.Int.{to_z-of_z}
use Rattle.std.specs.Ordering.{int_cmp}
use Rattle.std.specs.declared.ops.Bound.TheVariants.{Included, Excluded}
use Rattle.std.specs.BTreeMap.Range.{IsRangeOf}
use Rattle.rma_cells.specs.inside.Table.{table}
use Rattle.rma_cells.proofs.MapLemmas.{first_entry, is_first}
use Rattle.rma_cells.proofs.cell_map.first_within.Goals as goal

pub returns : goal.returns
returns c =
    let raw : IsRangeOf int_cmp (Included (to_z w64 (of_z w64 c.args.from))) (Excluded (to_z w64 (of_z w64 c.args.before))) c.args.map.now c.range.result = c.range.ensures.in_range tt in
    let part : IsRangeOf int_cmp (Included c.args.from) (Excluded c.args.before) c.args.map.now c.range.result =
    subst (λ (x : ℤ). IsRangeOf int_cmp (Included x) (Excluded c.args.before) c.args.map.now c.range.result) (to_z-of_z w64 c.args.from c.ranges.from)
    (subst (λ (x : ℤ). IsRangeOf int_cmp (Included (to_z w64 (of_z w64 c.args.from))) (Excluded x) c.args.map.now c.range.result) (to_z-of_z w64 c.args.before c.ranges.before) raw) in
    let start = c.in_ok-start.start.now in
    let cell = c.in_ok-start.cell.now in
    let fits : FitsSigned w64 start = search rules in
    let end_fits : FitsSigned w64 c.end.result = search rules in
    is_first (table c.args.map.now) c.args.from c.args.before start c.end.result _ _ cell (to_z-of_z w64 start fits) (to_z-of_z w64 c.end.result end_fits)
    (first_entry c.args.map.now c.args.from c.args.before c.range.result start cell c.next.new.self part c.in_ok-start.ensures.steps) c.end.ensures
