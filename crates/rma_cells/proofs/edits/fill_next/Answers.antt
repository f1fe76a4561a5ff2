use Rattle.std.proofs.Common.{◌≡◌, Some, sym, ap, ◌∙◌, arith, inr, ⊎_elim, rules, w64, to_z, of_z}
use Rattle.std.specs.Prelude.{◌<ℤ◌}
use Rattle.std.specs.Int.RustNames.{FitsSigned}
use Rattle.std.proofs.lemmas.Int.{ints, to_z-of_z}
use Rattle.rma_cells.specs.Cell.{Cell}
use Rattle.rma_cells.specs.inside.Table.{table}
use Rattle.rma_cells.proofs.TableLemmas.{same_bits, in_order}
use Rattle.rma_cells.proofs.EditLemmas.{inserted_ends, grows_by_insert, grows_by_gap}
use Rattle.rma_cells.proofs.edits.fill_next.Goals as goal

pub insert_id-requires : goal.insert_id-requires
insert_id-requires c =
    let f = table c.args.map.now in
    let r = c.gap_end-end.result in
    let end_fits : FitsSigned w64 r = search rules in
    let same = to_z-of_z w64 c.args.at c.ranges.at in
    let same_before = to_z-of_z w64 c.args.before c.ranges.before in
    let gap = rw same_before at (rw same at c.gap_end-end.ensures) in
    let e : r ≡ c.args.at = same_bits r c.args.at end_fits c.ranges.at c.if-end-at.true in
    let some : c.args.at <ℤ c.args.before = c.requires.some in
    let there = gap.next (omega (arith, ints)) in
    let at_s : f c.args.at ≡ Some there.0 = ap f (sym e) ∙ there.1 in
    (there.0, ap f same ∙ at_s, c.requires.sound.ascending c.args.at there.0 at_s)

pub returns-then-end-at-clause-grows : goal.returns-then-end-at-clause-grows
returns-then-end-at-clause-grows c =
    let f = table c.args.map.now in
    let r = c.gap_end-end.result in
    let end_fits : FitsSigned w64 r = search rules in
    let same = to_z-of_z w64 c.args.at c.ranges.at in
    let same_before = to_z-of_z w64 c.args.before c.ranges.before in
    let gap = rw same_before at (rw same at c.gap_end-end.ensures) in
    let e : r ≡ c.args.at = same_bits r c.args.at end_fits c.ranges.at c.if-end-at.true in
    let some : c.args.at <ℤ c.args.before = c.requires.some in
    let there = gap.next (omega (arith, ints)) in
    let at_s : f c.args.at ≡ Some there.0 = ap f (sym e) ∙ there.1 in
    let cell = there.0 in
    let told = (rw same at c.in_ok-next.ensures.inserts) cell at_s in
    let next_fits : FitsSigned w64 c.in_ok-next.next = search rules in
    let ends : to_z w64 (of_z w64 c.in_ok-next.next) ≡ cell.end = to_z-of_z w64 c.in_ok-next.next next_fits ∙ told.0 in
    let g = table c.insert_id.new.map in
    let grows = grows_by_insert f g c.args.id c.args.at cell told.1.0 c.args.before c.requires.sound at_s told.1.2 told.1.1 (c.requires.cut_before c.args.at cell at_s some) in
    rw ends (grows, c.requires.sound.filled c.args.at cell at_s, inserted_ends f g c.args.id c.args.at cell told.1.0 told.1.2 told.1.1)

pub returns-clause-grows : goal.returns-clause-grows
returns-clause-grows c =
    let f = table c.args.map.now in
    let r = c.gap_end-end.result in
    let end_fits : FitsSigned w64 r = search rules in
    let same = to_z-of_z w64 c.args.at c.ranges.at in
    let same_before = to_z-of_z w64 c.args.before c.ranges.before in
    let gap = rw same_before at (rw same at c.gap_end-end.ensures) in
    let ends = to_z-of_z w64 r end_fits in
    let g = table c.put.new.map in
    let puts = rw same at c.in_ok-put.ensures.puts in
    let up : c.args.at <ℤ r = ⊎_elim (λ (lt : r <ℤ c.args.at). let from = gap.from in absurd (omega (arith, ints))) (λ more. ⊎_elim (λ (e : r ≡ c.args.at). absurd (c.if-end-at.false (ap (of_z w64) e))) (λ (gt : c.args.at <ℤ r). gt) more) (in_order r c.args.at) in
    let d_end : c.new.result.end ≡ r = ap (λ (x : Cell). x.end) c.new.ensures ∙ ends in
    let d_ids = ap (λ (x : Cell). x.ids) c.new.ensures in
    let grows = grows_by_gap f g c.requires.sound c.args.id c.args.at r c.args.before c.requires.cut up gap.within gap.gap gap.next c.new.result d_end d_ids puts in
    rw ends (grows, up, (c.args.at, c.new.result, puts.here, inr (sym d_end)))
