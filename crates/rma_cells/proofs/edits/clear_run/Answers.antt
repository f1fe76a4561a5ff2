use Rattle.std.proofs.Common.{sym, subst, w64}
use Rattle.std.specs.Prelude.{ℤ}
use Rattle.std.proofs.lemmas.Int.{to_z-of_z}
use Rattle.rma_cells.specs.inside.Table.{table, IsCut}
use Rattle.rma_cells.proofs.RunLemmas.{clears_run}
use Rattle.rma_cells.proofs.edits.clear_run.Goals as goal

pub returns-clause-clears : goal.returns-clause-clears
returns-clause-clears c =
    let start = to_z-of_z w64 c.args.start c.ranges.start in
    let end = to_z-of_z w64 c.args.end c.ranges.end in
    clears_run (table c.args.map.now) (table c.clear.new.map) (table c.merge.new.map) (table c.merge-2.new.map) c.args.id c.args.start c.args.end
    (rw end at (rw start at c.clear.ensures.clears)) (rw start at c.merge.ensures.merges) (rw end at c.merge-2.ensures.merges)

pub clear-requires-clause-cut : goal.clear-requires-clause-cut
clear-requires-clause-cut c = let same = to_z-of_z w64 c.args.start c.ranges.start in subst (λ (x : ℤ). IsCut (table c.args.map.now) x) (sym same) c.requires.cut

pub clear-requires-clause-cut_end : goal.clear-requires-clause-cut_end
clear-requires-clause-cut_end c = let same = to_z-of_z w64 c.args.end c.ranges.end in subst (λ (x : ℤ). IsCut (table c.args.map.now) x) (sym same) c.requires.cut_end
