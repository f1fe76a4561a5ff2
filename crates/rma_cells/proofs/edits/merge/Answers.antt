use Rattle.std.proofs.Common.{◌≡◌, Some, sym, ap, ◌∙◌, arith, rules, w64, of_z}
use Rattle.std.specs.Int.RustNames.{FitsSigned}
use Rattle.std.proofs.lemmas.Int.{ints, to_z-of_z}
use Rattle.rma_cells.specs.Cell.{Cell}
use Rattle.rma_cells.specs.inside.Table.{table, Puts}
use Rattle.rma_cells.proofs.TableLemmas.{same_some, is_some_from, same_bits}
use Rattle.rma_cells.proofs.CutLemmas.{ended}
use Rattle.rma_cells.proofs.MergeLemmas.{merge_first, merge_elsewhere, merge_unlike, merge_two}
use Rattle.rma_cells.proofs.edits.merge.Goals as goal

pub returns-in_default-clause-merges : goal.returns-in_default-clause-merges
returns-in_default-clause-merges c =
    let same = to_z-of_z w64 c.args.at c.ranges.at in
    merge_first (table c.args.map.now) c.args.at c.requires.sound (rw same at c.in_default.ensures)

pub returns-then-extent-at-clause-merges : goal.returns-then-extent-at-clause-merges
returns-then-extent-at-clause-merges c =
    let same = to_z-of_z w64 c.args.at c.ranges.at in
    let last = rw same at c.in-Some.ensures in
    merge_elsewhere (table c.args.map.now) c.args.at c.requires.sound c.in-Some.extent.start last.cell.0 last.cell.1 last.before last.last
    (λ e. c.if-extent-at.true (ap (of_z w64) (sym last.cell.2 ∙ e)))

pub alike_end-requires : goal.alike_end-requires
alike_end-requires c =
    let fits : FitsSigned w64 c.in-Some.extent.start = search rules in
    let same = to_z-of_z w64 c.in-Some.extent.start fits in
    let cell = c.in-Some.ensures.cell in
    rw same (is_some_from _ cell.0 cell.1)

pub returns-in_default-alike_end-clause-merges : goal.returns-in_default-alike_end-clause-merges
returns-in_default-alike_end-clause-merges c =
    let fits : FitsSigned w64 c.in-Some.extent.start = search rules in
    let end_fits : FitsSigned w64 c.in-Some.extent.end = search rules in
    let same = to_z-of_z w64 c.args.at c.ranges.at in
    let same_start = to_z-of_z w64 c.in-Some.extent.start fits in
    let last = rw same at c.in-Some.ensures in
    let unlike = rw same_start at (rw same at c.in_default-alike_end.ensures.none) in
    merge_unlike (table c.args.map.now) c.args.at c.requires.sound c.in-Some.extent.start last.cell.0 last.cell.1 last.before last.last
    (last.cell.2 ∙ same_bits c.in-Some.extent.end c.args.at end_fits c.ranges.at c.if-extent-at.false) unlike

pub returns-clause-merges : goal.returns-clause-merges
returns-clause-merges c =
    let fits : FitsSigned w64 c.in-Some.extent.start = search rules in
    let end_fits : FitsSigned w64 c.in-Some.extent.end = search rules in
    let new_fits : FitsSigned w64 c.in-Some-alike_end.end = search rules in
    let f = table c.args.map.now in
    let h = table c.take.new.map in
    let s = c.in-Some.extent.start in
    let same = to_z-of_z w64 c.args.at c.ranges.at in
    let same_start = to_z-of_z w64 s fits in
    let same_end = to_z-of_z w64 c.in-Some-alike_end.end new_fits in
    let last = rw same at c.in-Some.ensures in
    let two = rw same_start at (rw same at c.in-Some-alike_end.ensures.some) in
    let cell = two.0 in
    let next = two.1 in
    let meets : cell.end ≡ c.args.at = ap (λ (x : Cell). x.end) (same_some cell last.cell.0 (f s) two.2 last.cell.1) ∙ last.cell.2 ∙ same_bits c.in-Some.extent.end c.args.at end_fits c.ranges.at c.if-extent-at.false in
    let first = rw same at c.take.ensures.puts in
    let kept : h s ≡ Some cell = first.others s (λ e. let low = last.before in absurd (omega (arith, ints))) ∙ two.2 in
    let second = (rw same_end at (rw same_start at c.end_at.ensures.puts)) cell kept in
    let ended_there : Puts h s (Some (ended cell next.end)) (table c.end_at.new.map) = rw (← two.5) second in
    merge_two f c.args.at c.requires.sound s cell two.2 last.before last.last h (table c.end_at.new.map) next meets two.3 two.4 first ended_there
