use Rattle.std.proofs.Common.{◌≡◌, Some, ◌∙◌, arith, rules, w64}
use Rattle.std.specs.Prelude.{◌<ℤ◌}
use Rattle.std.specs.Int.RustNames.{FitsSigned}
use Rattle.std.proofs.lemmas.Int.{ints, to_z-of_z}
use Rattle.rma_cells.specs.inside.Table.{table, Puts}
use Rattle.rma_cells.proofs.TableLemmas.{same_some, is_some_from}
use Rattle.rma_cells.proofs.CutLemmas.{cut_all, cut_at, cut_by_last}
use Rattle.rma_cells.proofs.edits.cut.Goals as goal

pub returns-then-extent-at-clause-cut : goal.returns-then-extent-at-clause-cut
returns-then-extent-at-clause-cut c =
    let same = to_z-of_z w64 c.args.at c.ranges.at in
    let last = rw same at c.in-Some.ensures in
    cut_by_last (table c.args.map.now) c.args.at c.requires.sound c.in-Some.extent.start last.cell.0 last.cell.1 last.before last.last (let end = last.cell.2 in let le = c.if-extent-at.true in omega (arith, ints))

pub copy_at-requires : goal.copy_at-requires
copy_at-requires c =
    let fits : FitsSigned w64 c.in-Some.extent.start = search rules in
    let same = to_z-of_z w64 c.in-Some.extent.start fits in
    let cell = c.in-Some.ensures.cell in
    rw same (is_some_from _ cell.0 cell.1)

pub returns-clause-cuts : goal.returns-clause-cuts
returns-clause-cuts c =
    let fits : FitsSigned w64 c.in-Some.extent.start = search rules in
    let end_fits : FitsSigned w64 c.in-Some.extent.end = search rules in
    let f = table c.args.map.now in
    let h = table c.put.new.map in
    let s = c.in-Some.extent.start in
    let same = to_z-of_z w64 c.args.at c.ranges.at in
    let same_start = to_z-of_z w64 s fits in
    let last = rw same at c.in-Some.ensures in
    let cell = last.cell.0 in
    let end = last.cell.2 in
    let not_le = c.if-extent-at.false in
    let high : c.args.at <ℤ cell.end = grind (arith, ints) in
    let copied = same_some c.in_ok-upper.upper cell (f s) (rw same_start at c.in_ok-upper.ensures) last.cell.1 in
    let first : Puts f c.args.at (Some cell) h = rw (← copied) (rw same at c.in_ok-put.ensures.puts) in
    let low = last.before in
    let kept : h s ≡ Some cell = first.others s (λ e. absurd (omega (arith, ints))) ∙ last.cell.1 in
    let second = (rw same at (rw same_start at c.end_at.ensures.puts)) cell kept in
    cut_all f h (table c.end_at.new.map) c.requires.sound s cell c.args.at last.cell.1 low high first second

pub returns-clause-cut : goal.returns-clause-cut
returns-clause-cut c =
    let fits : FitsSigned w64 c.in-Some.extent.start = search rules in
    let end_fits : FitsSigned w64 c.in-Some.extent.end = search rules in
    let f = table c.args.map.now in
    let h = table c.put.new.map in
    let s = c.in-Some.extent.start in
    let same = to_z-of_z w64 c.args.at c.ranges.at in
    let same_start = to_z-of_z w64 s fits in
    let last = rw same at c.in-Some.ensures in
    let cell = last.cell.0 in
    let end = last.cell.2 in
    let not_le = c.if-extent-at.false in
    let high : c.args.at <ℤ cell.end = grind (arith, ints) in
    let copied = same_some c.in_ok-upper.upper cell (f s) (rw same_start at c.in_ok-upper.ensures) last.cell.1 in
    let first : Puts f c.args.at (Some cell) h = rw (← copied) (rw same at c.in_ok-put.ensures.puts) in
    let low = last.before in
    let kept : h s ≡ Some cell = first.others s (λ e. absurd (omega (arith, ints))) ∙ last.cell.1 in
    let second = (rw same at (rw same_start at c.end_at.ensures.puts)) cell kept in
    cut_at f h (table c.end_at.new.map) c.requires.sound s cell c.args.at last.cell.1 low high first second
