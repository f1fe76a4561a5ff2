use Rattle.std.proofs.Common.{◌≡◌, Some, None, sym, ap, ◌∙◌, arith, w64}
use Rattle.std.proofs.lemmas.Int.{to_z-of_z}
use Rattle.std.proofs.lemmas.Grind.{common_steps}
use Rattle.std.specs.Option.{option_copied_mut}
use Rattle.rma_cells.specs.inside.Table.{table, Removes, Puts}
use Rattle.rma_cells.proofs.TableLemmas.{not_none, same_some}
use Rattle.rma_cells.proofs.cell_map.remove_id.Goals as goal

pub unreachable-requires : goal.unreachable-requires
unreachable-requires c =
    let same = to_z-of_z w64 c.args.start c.ranges.start in
    let none : table c.args.map.now c.args.start ≡ None = rw same at (sym c.get_mut.ensures.value ∙ ap option_copied_mut c.in-None.is) in
    not_none c.requires.0 (table c.args.map.now c.args.start) c.requires.1 none

pub returns-clause-removes : goal.returns-clause-removes
returns-clause-removes c cell is =
    let same = to_z-of_z w64 c.args.start c.ranges.start in
    let found : table c.args.map.now c.args.start ≡ Some c.in-Some.cell.now = rw same at (sym c.get_mut.ensures.value ∙ ap option_copied_mut c.in-Some.is) in
    let old = same_some c.in-Some.cell.now cell (table c.args.map.now c.args.start) found is in
    let less = c.remove.ensures in
    let removes : Removes cell c.args.id c.remove.new.self = rw (← old) (record { end = less.end; ascending = less.ascending; ids = less.ids }) in
    let writes = c.get_mut.follows.holds c.remove.new.self in
    let puts : Puts (table c.args.map.now) c.args.start (Some c.remove.new.self) (table (c.get_mut.follows.lender c.remove.new.self)) = record { here = grind (arith, common_steps, to_z-of_z); others = λ q apart. grind (arith, common_steps, to_z-of_z) } in
    (c.remove.new.self, removes, puts, c.is_empty.ensures)
