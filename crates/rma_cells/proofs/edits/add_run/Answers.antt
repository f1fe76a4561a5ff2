use Rattle.std.proofs.Common.{arith, inl, inr, w64}
use Rattle.std.proofs.lemmas.Int.{ints, to_z-of_z}
use Rattle.rma_cells.specs.inside.Table.{table}
use Rattle.rma_cells.proofs.RunLemmas.{run_added, run_undone}
use Rattle.rma_cells.proofs.edits.add_run.Goals as goal

pub fill-requires-clause-cut : goal.fill-requires-clause-cut
fill-requires-clause-cut c = c.in_ok-cut_ends.ensures.cuts.cut

pub fill-requires-clause-cut_end : goal.fill-requires-clause-cut_end
fill-requires-clause-cut_end c = c.in_ok-cut_ends.ensures.cuts.cut_end

pub clear_run-requires-clause-cut : goal.clear_run-requires-clause-cut
clear_run-requires-clause-cut c = let grows = c.in-Err.ensures.grows in grows.1.cuts _ c.in_ok-cut_ends.ensures.cuts.cut (inl (omega (arith, ints)))

pub clear_run-requires-clause-cut_end : goal.clear_run-requires-clause-cut_end
clear_run-requires-clause-cut_end c = let grows = c.in-Err.ensures.grows in grows.1.cuts _ c.in_ok-cut_ends.ensures.cuts.cut_end (inr grows.1.within)

pub returns-in-Ok-clause-normal : goal.returns-in-Ok-clause-normal
returns-in-Ok-clause-normal c =
    let start = to_z-of_z w64 c.args.start c.ranges.start in
    let end = to_z-of_z w64 c.args.end c.ranges.end in
    let r = c.requires in
    (run_added (table c.args.map.now) (table c.cut_ends.new.map) c.args.id c.args.start c.args.end r.normal r.some r.away c.in_ok-cut_ends.ensures.same (rw end at (rw start at c.in_ok-cut_ends.ensures.cuts)) (table c.fill.new.map) (rw end at (rw start at c.in-Ok.ensures.grows))).0

pub returns-in-Ok-clause-stands : goal.returns-in-Ok-clause-stands
returns-in-Ok-clause-stands c =
    let start = to_z-of_z w64 c.args.start c.ranges.start in
    let end = to_z-of_z w64 c.args.end c.ranges.end in
    let r = c.requires in
    (run_added (table c.args.map.now) (table c.cut_ends.new.map) c.args.id c.args.start c.args.end r.normal r.some r.away c.in_ok-cut_ends.ensures.same (rw end at (rw start at c.in_ok-cut_ends.ensures.cuts)) (table c.fill.new.map) (rw end at (rw start at c.in-Ok.ensures.grows))).1

pub returns-in-Err-clause-normal : goal.returns-in-Err-clause-normal
returns-in-Err-clause-normal c =
    let start = to_z-of_z w64 c.args.start c.ranges.start in
    let end = to_z-of_z w64 c.args.end c.ranges.end in
    let r = c.requires in
    let grows = rw end at (rw start at c.in-Err.ensures.grows) in
    (run_undone (table c.args.map.now) (table c.cut_ends.new.map) c.args.id c.args.start c.args.end r.normal r.some r.away c.in_ok-cut_ends.ensures.same (rw end at (rw start at c.in_ok-cut_ends.ensures.cuts)) (table c.fill.new.map) (table c.clear_run.new.map) grows.0 grows.1 (rw end at (rw start at c.clear_run.ensures.clears))).0

pub returns-in-Err-clause-err : goal.returns-in-Err-clause-err
returns-in-Err-clause-err c =
    let start = to_z-of_z w64 c.args.start c.ranges.start in
    let end = to_z-of_z w64 c.args.end c.ranges.end in
    let r = c.requires in
    let grows = rw end at (rw start at c.in-Err.ensures.grows) in
    (run_undone (table c.args.map.now) (table c.cut_ends.new.map) c.args.id c.args.start c.args.end r.normal r.some r.away c.in_ok-cut_ends.ensures.same (rw end at (rw start at c.in_ok-cut_ends.ensures.cuts)) (table c.fill.new.map) (table c.clear_run.new.map) grows.0 grows.1 (rw end at (rw start at c.clear_run.ensures.clears))).1
