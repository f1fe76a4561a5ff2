use Rattle.std.proofs.Common.{w64}
use Rattle.std.proofs.lemmas.Int.{to_z-of_z}
use Rattle.rma_cells.specs.inside.Table.{table}
use Rattle.rma_cells.proofs.RunLemmas.{run_cut, run_cut_end, run_removed}
use Rattle.rma_cells.proofs.edits.remove_run.Goals as goal

pub clear_run-requires-clause-cut : goal.clear_run-requires-clause-cut
clear_run-requires-clause-cut c =
    let same = to_z-of_z w64 c.args.start c.ranges.start in
    let r = c.requires in
    rw same (run_cut (table c.args.map.now) c.args.id c.args.start c.args.end r.normal r.some r.there r.first r.last)

pub clear_run-requires-clause-cut_end : goal.clear_run-requires-clause-cut_end
clear_run-requires-clause-cut_end c =
    let same = to_z-of_z w64 c.args.end c.ranges.end in
    let r = c.requires in
    rw same (run_cut_end (table c.args.map.now) c.args.id c.args.start c.args.end r.normal r.some r.there r.first r.last)

pub returns-clause-normal : goal.returns-clause-normal
returns-clause-normal c =
    let start = to_z-of_z w64 c.args.start c.ranges.start in
    let end = to_z-of_z w64 c.args.end c.ranges.end in
    let r = c.requires in
    run_removed (table c.args.map.now) c.args.id c.args.start c.args.end r.normal r.some r.there r.first r.last (table c.clear_run.new.map) (rw end at (rw start at c.clear_run.ensures.clears))

pub returns-clause-stands : goal.returns-clause-stands
returns-clause-stands c =
    let start = to_z-of_z w64 c.args.start c.ranges.start in
    let end = to_z-of_z w64 c.args.end c.ranges.end in
    (rw end at (rw start at c.clear_run.ensures.clears)).stands
