use Rattle.std.proofs.Common.{sym, ◌∙◌, w64}
use Rattle.std.proofs.lemmas.Int.{to_z-of_z}
use Rattle.std.proofs.lemmas.Bool.{false≢true}
use Rattle.rma_cells.specs.inside.Table.{table}
use Rattle.rma_cells.proofs.TableLemmas.{some_id, some_cell}
use Rattle.rma_cells.proofs.EditLemmas.{clears_by_remove, clears_by_take, puts_twice}
use Rattle.rma_cells.proofs.edits.clear_cell.Goals as goal

pub remove_id-requires : goal.remove_id-requires
remove_id-requires c =
    let same = to_z-of_z w64 c.args.start c.ranges.start in
    let cell = some_cell (table c.args.map.now c.args.start) c.requires.some in
    (cell.0, rw same cell.1, c.requires.sound.ascending c.args.start cell.0 cell.1)

pub returns-then-remove_id-clause-clears : goal.returns-then-remove_id-clause-clears
returns-then-remove_id-clause-clears c cell is =
    let same = to_z-of_z w64 c.args.start c.ranges.start in
    let told = (rw same at c.remove_id.ensures.removes) cell is in
    let second = rw same at c.take.ensures.puts in
    clears_by_take (table c.args.map.now) (table c.take.new.map) c.args.id c.args.start cell told.0 c.requires.sound is
    (puts_twice (table c.args.map.now) (table c.remove_id.new.map) (table c.take.new.map) c.args.start _ _ told.2 second) told.1 (told.3.0 c.if-remove_id.true)

pub returns-else-remove_id-clause-clears : goal.returns-else-remove_id-clause-clears
returns-else-remove_id-clause-clears c cell is =
    let same = to_z-of_z w64 c.args.start c.ranges.start in
    let told = (rw same at c.remove_id.ensures.removes) cell is in
    clears_by_remove (table c.args.map.now) (table c.remove_id.new.map) c.args.id c.args.start cell told.0 c.requires.sound is told.2 told.1
    (some_id told.0.ids (λ none. false≢true (sym c.if-remove_id.false ∙ told.3.1 none)))
