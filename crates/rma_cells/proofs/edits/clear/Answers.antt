use Rattle.std.proofs.Common.{◌≡◌, sym, ◌∙◌, arith, inr, rules, subst, w64, to_z, of_z}
use Rattle.std.specs.Prelude.{ℤ}
use Rattle.std.specs.Int.RustNames.{FitsSigned}
use Rattle.std.proofs.lemmas.Int.{ints, to_z-of_z}
use Rattle.rma_cells.specs.inside.Table.{table, IsCut, Clears}
use Rattle.rma_cells.proofs.TableLemmas.{is_some_from}
use Rattle.rma_cells.proofs.RunLemmas.{boundary_cut, clears_none, clears_empty, clears_more}
use Rattle.rma_cells.proofs.edits.clear.Goals as goal

pub cells-init : goal.cells-init
cells-init c =
    let same_start = to_z-of_z w64 c.args.start c.ranges.start in
    let same_end = to_z-of_z w64 c.args.end c.ranges.end in
    let up = c.requires.up in
    let f = table c.args.map.now in
    let start = to_z w64 (of_z w64 c.args.start) in
    record { ordered = c.requires.ordered; up = omega (arith, ints); down = omega (arith, ints); clears = clears_empty f c.args.id start c.requires.sound; cut = subst (λ (x : ℤ). IsCut f x) (sym same_start) c.requires.cut }

pub clear_cell-requires-clause-some : goal.clear_cell-requires-clause-some
clear_cell-requires-clause-some c =
    let fits : FitsSigned w64 c.in-Some.extent.start = search rules in
    let same = to_z-of_z w64 c.in-Some.extent.start fits in
    let cell = c.in-Some.ensures.cell in
    rw same (is_some_from _ cell.0 cell.1)

pub cells-smaller : goal.cells-smaller
cells-smaller c =
    let fits : FitsSigned w64 c.in-Some.extent.end = search rules in
    let same = to_z-of_z w64 c.in-Some.extent.end fits in
    let first = c.in-Some.ensures in
    let low = first.from_there in
    let high = first.below in
    let end = first.cell.2 in
    let filled = c.cells.invariant.clears.sound.filled c.in-Some.extent.start first.cell.0 first.cell.1 in
    omega (arith, ints)

pub cells-preserved : goal.cells-preserved
cells-preserved c =
    let start_fits : FitsSigned w64 c.in-Some.extent.start = search rules in
    let fits : FitsSigned w64 c.in-Some.extent.end = search rules in
    let same_start = to_z-of_z w64 c.in-Some.extent.start start_fits in
    let same = to_z-of_z w64 c.in-Some.extent.end fits in
    let same_last = to_z-of_z w64 c.args.end c.ranges.end in
    let inv = c.cells.invariant in
    let first = c.in-Some.ensures in
    let cell = first.cell.0 in
    let f = table c.args.map.now in
    let h = table c.cells.map in
    let g = table c.clear_cell.new.map in
    let at = to_z w64 c.cells.at-bits in
    let start = to_z w64 (of_z w64 c.args.start) in
    let last = to_z w64 (of_z w64 c.args.end) in
    let s = c.in-Some.extent.start in
    let e = to_z w64 (of_z w64 c.in-Some.extent.end) in
    let low = first.from_there in
    let high = first.below in
    let ends : cell.end ≡ e = first.cell.2 ∙ sym same in
    let filled = inv.clears.sound.filled s cell first.cell.1 in
    let here : Clears h c.args.id s e g = subst (λ (x : ℤ). Clears h c.args.id s x g) ends ((rw same_start at c.clear_cell.ensures.clears) cell first.cell.1) in
    let gap = clears_none h c.args.id at s inv.clears.sound inv.cut first.first in
    let step = clears_more h h g c.args.id at s e gap here low (omega (arith, ints)) in
    let all = clears_more f h g c.args.id start at e inv.clears step inv.up (omega (arith, ints)) in
    let cut_last = inv.clears.cuts last (subst (λ (x : ℤ). IsCut f x) (sym same_last) c.requires.cut_end) in
    let down = cut_last s cell first.cell.1 high in
    let cut_here : IsCut h e = boundary_cut h inv.clears.sound e (s, cell, first.cell.1, inr (sym ends)) in
    record { ordered = c.clear_cell.ensures.ordered; up = let up = inv.up in omega (arith, ints); down = omega (arith, ints); clears = all; cut = here.cuts e cut_here }

pub returns-clause-clears : goal.returns-clause-clears
returns-clause-clears c =
    let same_start = to_z-of_z w64 c.args.start c.ranges.start in
    let same_end = to_z-of_z w64 c.args.end c.ranges.end in
    let inv = c.cells.invariant in
    let f = table c.args.map.now in
    let h = table c.cells.map in
    let at = to_z w64 c.cells.at-bits in
    let start = to_z w64 (of_z w64 c.args.start) in
    let last = to_z w64 (of_z w64 c.args.end) in
    let rest = clears_none h c.args.id at last inv.clears.sound inv.cut c.in_default.ensures in
    let all = clears_more f h h c.args.id start at last inv.clears rest inv.up inv.down in
    subst (λ (x : ℤ). Clears f c.args.id x c.args.end h) same_start (subst (λ (x : ℤ). Clears f c.args.id start x h) same_end all)
