use Rattle.std.proofs.Common.{◌≡◌, sym, arith, inl, inr, ⊎_elim, rules, subst, w64, to_z, of_z}
use Rattle.std.specs.Prelude.{ℤ}
use Rattle.std.specs.Int.RustNames.{FitsSigned}
use Rattle.std.proofs.lemmas.Int.{ints, to_z-of_z}
use Rattle.rma_cells.specs.inside.Table.{Table, table, IsCut, Grows, IsBoundary}
use Rattle.rma_cells.proofs.RunLemmas.{same_table, boundary_cut, grows_more}
use Rattle.rma_cells.proofs.edits.fill.Goals as goal

pub fill_next-requires-clause-cut : goal.fill_next-requires-clause-cut
fill_next-requires-clause-cut c =
    let start = to_z w64 (of_z w64 c.args.start) in
    let at = to_z w64 c.cells.at-bits in
    let same = to_z-of_z w64 c.args.start c.ranges.start in
    let inv = c.cells.invariant in
    let cut : IsCut (table c.cells.map) at =
    ⊎_elim (λ (e : start ≡ at). subst (λ (x : ℤ). IsCut (table c.cells.map) x) e (inv.grows.cuts start (subst (λ (x : ℤ). IsCut (table c.args.map.now) x) (sym same) c.requires.cut) (inl (omega (arith, ints)))))
    (λ (bound : IsBoundary (table c.cells.map) at). boundary_cut (table c.cells.map) inv.grows.sound at bound) inv.edge in
    cut

pub fill_next-requires-clause-cut_before : goal.fill_next-requires-clause-cut_before
fill_next-requires-clause-cut_before c =
    let same = to_z-of_z w64 c.args.end c.ranges.end in
    let inv = c.cells.invariant in
    let end = to_z w64 (of_z w64 c.args.end) in
    inv.grows.cuts end (subst (λ (x : ℤ). IsCut (table c.args.map.now) x) (sym same) c.requires.cut_end) (inr inv.grows.within)

pub returns-in_err-at-clause-grows : goal.returns-in_err-at-clause-grows
returns-in_err-at-clause-grows c =
    let inv = c.cells.invariant in
    let same_start = to_z-of_z w64 c.args.start c.ranges.start in
    let same_end = to_z-of_z w64 c.args.end c.ranges.end in
    let at = to_z w64 c.cells.at-bits in
    let so_far : Grows (table c.args.map.now) c.args.id c.args.start at c.args.end (table c.cells.map) =
    subst (λ (x : ℤ). Grows (table c.args.map.now) c.args.id x at c.args.end (table c.cells.map)) same_start
    (subst (λ (x : ℤ). Grows (table c.args.map.now) c.args.id (to_z w64 (of_z w64 c.args.start)) at x (table c.cells.map)) same_end inv.grows) in
    let grows : (to : ℤ) × Grows (table c.args.map.now) c.args.id c.args.start to c.args.end (table c.fill_next.new.map) =
    (at, subst (λ (g : Table). Grows (table c.args.map.now) c.args.id c.args.start at c.args.end g) (same_table (table c.cells.map) (table c.fill_next.new.map) c.in_err-at.ensures.err) so_far) in
    search rules

pub cells-smaller : goal.cells-smaller
cells-smaller c =
    let next_fits : FitsSigned w64 c.in_ok-at.at = search rules in
    let same = to_z-of_z w64 c.in_ok-at.at next_fits in
    let up = c.in_ok-at.ensures.grows.1 in
    let within = c.in_ok-at.ensures.grows.0.within in
    omega (arith, ints)

pub cells-preserved : goal.cells-preserved
cells-preserved c =
    let next_fits : FitsSigned w64 c.in_ok-at.at = search rules in
    let same = to_z-of_z w64 c.in_ok-at.at next_fits in
    let told = c.in_ok-at.ensures.grows in
    let inv = c.cells.invariant in
    let start = to_z w64 (of_z w64 c.args.start) in
    let end = to_z w64 (of_z w64 c.args.end) in
    let f = table c.args.map.now in
    let g = table c.fill_next.new.map in
    let grows = grows_more f (table c.cells.map) g c.args.id start (to_z w64 c.cells.at-bits) c.in_ok-at.at end inv.grows told.0 inv.edge in
    record { ordered = c.in_ok-at.ensures.ordered; grows = subst (λ (x : ℤ). Grows f c.args.id start x end g) (sym same) grows; edge = inr (subst (λ (x : ℤ). IsBoundary g x) (sym same) told.2) }
