use Rattle.std.proofs.Common.{rules}
use Rattle.std.specs.Int.{w32, w64, w128}
use Rattle.std.proofs.lemmas.Int.{to_z-of_z}
use Rattle.rma_type.proofs.table.TypeTable.append_member.Goals as goal

pub returns-clause-value : goal.returns-clause-value
returns-clause-value c =
    let m = c.args.member.now in
    rw (c.append_block.ensures.value, to_z-of_z w128 c.wide.result (search rules), c.copies.ensures.value, c.wide.ensures.value, to_z-of_z w32 m.length (search rules), to_z-of_z w64 m.displacement (search rules), c.summary.ensures.value)
