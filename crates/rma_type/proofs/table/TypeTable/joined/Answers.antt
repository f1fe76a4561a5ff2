use Rattle.std.proofs.Common.{◌*◌, ap, sym, ◌∙◌, arith}
use Rattle.rma_type.proofs.Words.{no_type, Summary, copies_of, summary}
use Rattle.rma_type.proofs.CheckLemmas.{IsCounted_checked, IsSingle_checked}
use Rattle.rma_type.proofs.OldLemmas.{has_one_old, typemap_of_one, entry_count_of_one, entry_count_of_struct, summary_of_struct}
use Rattle.rma_type.proofs.table.TypeTable.joined.Goals as goal

pub join_members-requires-clause-few : goal.join_members-requires-clause-few
join_members-requires-clause-few c =
    let same = entry_count_of_struct c.args.self.now.origins c.args.constructor.now c.in-Struct.members c.as_slice.result.now c.args.old_types.now c.in-Struct.is c.as_slice.ensures in
    omega (arith, same, c.requires.few)

pub build-requires-clause-single : goal.build-requires-clause-single
build-requires-clause-single c =
    let constructor = c.args.constructor.now in
    IsSingle_checked constructor (IsCounted_checked constructor (has_one_old constructor c.in_default.not-Struct) c.requires.counts c.requires.parts) c.requires.small

pub build-requires-clause-few : goal.build-requires-clause-few
build-requires-clause-few c =
    let constructor = c.args.constructor.now in
    let one = has_one_old constructor c.in_default.not-Struct in
    let total = entry_count_of_one c.args.self.now.origins constructor c.args.old_types.now no_type one c.requires.after.0 (IsCounted_checked constructor one c.requires.counts c.requires.parts) in
    let entries = ap (λ (o : Summary). copies_of constructor * o.entries) c.summary.ensures.value in
    omega (arith, total, entries, c.requires.few)

pub returns-in-Struct : goal.returns-in-Struct
returns-in-Struct c =
    c.join_members.ensures
    ∙ sym (summary_of_struct c.args.self.now.origins c.args.constructor.now c.in-Struct.members c.as_slice.result.now c.args.old_types.now c.in-Struct.is c.as_slice.ensures)

pub returns-in_default : goal.returns-in_default
returns-in_default c =
    c.build.ensures _ c.summary.ensures.value
    ∙ sym (ap summary (typemap_of_one c.args.self.now.origins c.args.constructor.now c.args.old_types.now no_type (has_one_old c.args.constructor.now c.in_default.not-Struct) c.requires.after.0))
