use Rattle.rma_type.proofs.Words.{no_type}
use Rattle.rma_type.proofs.CheckLemmas.{IsCounted_checked}
use Rattle.rma_type.proofs.OldLemmas.{has_one_old, entry_count_of_one, entry_count_of_struct}
use Rattle.rma_type.proofs.table.TypeTable.too_many.Goals as goal

pub returns-in-Struct : goal.returns-in-Struct
returns-in-Struct c =
    rw (c.members_exceed.ensures, entry_count_of_struct c.args.self.now.origins c.args.constructor.now c.in-Struct.members c.as_slice.result.now c.args.old_types.now c.in-Struct.is c.as_slice.ensures)

pub returns-in_default : goal.returns-in_default
returns-in_default c =
    let constructor = c.args.constructor.now in
    let one = has_one_old constructor c.in_default.not-Struct in
    rw (c.exceeds.ensures, c.summary.ensures.value, entry_count_of_one c.args.self.now.origins constructor c.args.old_types.now no_type one c.requires.after.0 (IsCounted_checked constructor one c.requires.counts c.requires.parts))
