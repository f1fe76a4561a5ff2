use Rattle.std.proofs.Common.{arith, w64}
use Rattle.std.specs.Prelude.{◌<ℤ◌}
use Rattle.std.proofs.lemmas.Int.{ints, to_z-of_z}
use Rattle.rma_cells.specs.inside.Table.{table}
use Rattle.rma_cells.proofs.LookLemmas.{looked}
use Rattle.rma_cells.proofs.look.look.Goals as goal

pub look_within-requires-clause-up : goal.look_within-requires-clause-up
look_within-requires-clause-up g c =
    let start = to_z-of_z w64 c.args.start c.ranges.start in
    let end = to_z-of_z w64 c.args.end c.ranges.end in
    let some : c.args.start <ℤ c.args.end = c.requires.some in
    omega (arith, ints)

pub returns-clause-ids : goal.returns-clause-ids
returns-clause-ids g c =
    let start = to_z-of_z w64 c.args.start c.ranges.start in
    let end = to_z-of_z w64 c.args.end c.ranges.end in
    looked (table c.args.map.now) c.requires.sound c.args.start c.args.end c.requires.some c.args.out.now.items c.look_across.new.out.items c.look_within.new.out.items
    (rw start at c.in_ok-look_across.ensures.ids) (rw end at (rw start at c.in_ok-look_within.ensures.ids))
