use Rattle.std.proofs.Common.{◌≡◌, pos, to_z, w64, arith}
use Rattle.std.proofs.lemmas.Int.{to_z_pos}
use Rattle.rma_layout.specs.declared.space.Space.TheVariants.{Local}
use Rattle.rma_type.specs.Table.{typemaps}
use Rattle.rma_buffer.proofs.PlacedLemmas.{is_placed, is_refused}
use Rattle.rma_buffer.proofs.placed.place_local.Goals as goal

pub returns-clause-placed : goal.returns-clause-placed
returns-clause-placed c =
    let it = c.args.operand.now in
    let within = c.requires.within.1 in
    let address : to_z w64 it.address ≡ pos it.address = to_z_pos w64 it.address (omega arith) in
    is_placed (typemaps c.args.table.now.origins) c.args.touched Local it (to_z w64 it.address) address c.place_local.result c.place_local.ensures.ok c.place_local.ensures.taken

pub returns-clause-fault : goal.returns-clause-fault
returns-clause-fault c =
    let it = c.args.operand.now in
    let within = c.requires.within.1 in
    let address : to_z w64 it.address ≡ pos it.address = to_z_pos w64 it.address (omega arith) in
    is_refused (typemaps c.args.table.now.origins) c.args.touched Local it (to_z w64 it.address) address c.place_local.result c.place_local.ensures.fault
