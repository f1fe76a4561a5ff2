use Rattle.std.proofs.Common.{length, ap, ◌∙◌, arith}
use Rattle.rma_type.proofs.Words.{no_type, copies_of, typemap_of_new}
use Rattle.rma_typemap.proofs.SignatureLemmas.{length_signature}
use Rattle.rma_type.proofs.CheckLemmas.{IsCounted_checked}
use Rattle.rma_type.proofs.OldLemmas.{has_one_old}
use Rattle.rma_type.proofs.SourceLemmas.{signature_of_struct, entries_of_one, signature_of_one}
use Rattle.rma_type.proofs.table.TypeTable.find_source.Goals as goal

pub member_source-requires-clause-few : goal.member_source-requires-clause-few
member_source-requires-clause-few c =
    let os = c.args.self.now.origins in
    let constructor = c.args.constructor.now in
    let old_types = c.args.old_types.now in
    let same = signature_of_struct os constructor c.in-Struct.members c.as_slice.result.now old_types c.in-Struct.is c.as_slice.ensures in
    omega (arith, ap length same, length_signature (typemap_of_new os constructor old_types), c.requires.count, c.requires.few)

pub returns-in-Struct : goal.returns-in-Struct
returns-in-Struct c =
    let os = c.args.self.now.origins in
    rw (signature_of_struct os c.args.constructor.now c.in-Struct.members c.as_slice.result.now c.args.old_types.now c.in-Struct.is c.as_slice.ensures) c.member_source.ensures

pub returns-in_default : goal.returns-in_default
returns-in_default c =
    let os = c.args.self.now.origins in
    let constructor = c.args.constructor.now in
    let old_types = c.args.old_types.now in
    let one = has_one_old constructor c.in_default.not-Struct in
    let counted = IsCounted_checked constructor one c.requires.counts c.requires.parts in
    rw (signature_of_one os constructor old_types no_type one c.requires.after.0 counted)
    (c.copied_source.ensures (copies_of constructor) (c.requires.count ∙ entries_of_one os constructor old_types no_type one c.requires.after.0 counted))
