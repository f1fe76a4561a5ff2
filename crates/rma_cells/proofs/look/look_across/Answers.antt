use Rattle.std.proofs.Common.{subst, arith, rules, w64, to_z, of_z}
use Rattle.std.specs.Prelude.{ℤ}
use Rattle.std.specs.Int.RustNames.{FitsSigned}
use Rattle.std.specs.List.{Contains}
use Rattle.std.specs.Ordering.{int_cmp}
use Rattle.std.specs.BTreeMap.Range.{IsRangeOf}
use Rattle.std.specs.declared.ops.Bound.TheVariants.{Unbounded, Excluded}
use Rattle.std.proofs.lemmas.Int.{ints, to_z-of_z}
use Rattle.rma_cells.specs.inside.Table.{table, StandsAcross}
use Rattle.rma_cells.proofs.MapLemmas.{last_entry}
use Rattle.rma_cells.proofs.LookLemmas.{or_alike, one_more, across_iff, across_none, same_or_none}
use Rattle.rma_cells.proofs.look.look_across.Goals as goal

pub returns-in_ok-extend_from_slice-clause-ids : goal.returns-in_ok-extend_from_slice-clause-ids
returns-in_ok-extend_from_slice-clause-ids g c id =
    let raw : IsRangeOf int_cmp Unbounded (Excluded (to_z w64 (of_z w64 c.args.at))) c.args.map.now c.range.result = c.range.ensures.in_range tt in
    let part : IsRangeOf int_cmp Unbounded (Excluded c.args.at) c.args.map.now c.range.result = subst (λ (x : ℤ). IsRangeOf int_cmp Unbounded (Excluded x) c.args.map.now c.range.result) (to_z-of_z w64 c.args.at c.ranges.at) raw in
    let f = table c.args.map.now in
    let start = c.in-Some.field-0-0.now in
    let cell = c.in-Some.cell.now in
    let last = last_entry c.args.map.now c.args.at c.range.result start cell c.next_back.new.self part c.in-Some.ensures.steps in
    let same = to_z-of_z w64 c.args.at c.ranges.at in
    let end_fits : FitsSigned w64 c.end.result = search rules in
    let same_end = to_z-of_z w64 c.end.result end_fits in
    let end = c.end.ensures in
    let over = c.if-at-end.true in
    let grown = one_more c.args.out.now.items c.extend_from_slice.new.self.items c.ids.result.now c.in_ok-extend_from_slice.ensures.items id in
    let across = across_iff f c.requires c.args.at start cell last.1 last.0 last.2 (grind (arith, ints)) id in
    or_alike (Contains c.extend_from_slice.new.self.items id) (Contains c.args.out.now.items id) (Contains c.ids.result.now id) (StandsAcross f c.args.at id) grown (rw c.ids.ensures across)

pub returns-else-at-end-clause-ids : goal.returns-else-at-end-clause-ids
returns-else-at-end-clause-ids g c id =
    let raw : IsRangeOf int_cmp Unbounded (Excluded (to_z w64 (of_z w64 c.args.at))) c.args.map.now c.range.result = c.range.ensures.in_range tt in
    let part : IsRangeOf int_cmp Unbounded (Excluded c.args.at) c.args.map.now c.range.result = subst (λ (x : ℤ). IsRangeOf int_cmp Unbounded (Excluded x) c.args.map.now c.range.result) (to_z-of_z w64 c.args.at c.ranges.at) raw in
    let f = table c.args.map.now in
    let start = c.in-Some.field-0-0.now in
    let cell = c.in-Some.cell.now in
    let last = last_entry c.args.map.now c.args.at c.range.result start cell c.next_back.new.self part c.in-Some.ensures.steps in
    let same = to_z-of_z w64 c.args.at c.ranges.at in
    let end_fits : FitsSigned w64 c.end.result = search rules in
    let same_end = to_z-of_z w64 c.end.result end_fits in
    let end = c.end.ensures in
    let not_over = c.if-at-end.false in
    same_or_none (Contains c.args.out.now.items id) (StandsAcross f c.args.at id) (across_none f c.requires c.args.at start cell last.1 last.0 last.2 (grind (arith, ints)) id)
