use Rattle.std.proofs.Common.{◌≡◌, Some, sym, ap, ◌∙◌, w64}
use Rattle.std.proofs.lemmas.Int.{to_z-of_z}
use Rattle.rma_cells.specs.inside.Table.{table}
use Rattle.rma_cells.proofs.cell_map.copy_at.Goals as goal

pub returns : goal.returns
returns c =
    let same = to_z-of_z w64 c.args.start c.ranges.start in
    let found : table c.args.map.now c.args.start ≡ Some c.index.result.now = rw same at c.index.ensures in
    found ∙ ap Some (sym c.in_ok-copy.ensures)
