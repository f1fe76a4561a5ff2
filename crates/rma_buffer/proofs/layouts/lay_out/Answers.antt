use Rattle.std.proofs.Common.{◌∙◌}
use Rattle.std.proofs.lemmas.Result.{err_from_is_err_and}
use Rattle.rma_type.specs.Table.{typemaps}
use Rattle.rma_buffer.proofs.OverlapLemmas.{first_of_all, overlap_first, overlap_none, overlaps_laid}
use Rattle.rma_buffer.proofs.layouts.lay_out.Goals as goal

pub returns-in_err-layouts-clause-fault : goal.returns-in_err-layouts-clause-fault
returns-in_err-layouts-clause-fault c =
    let returned = err_from_is_err_and c.from_residual.result c.from_residual.ensures.1 in
    rw (returned.1, returned.2)
    (first_of_all (typemaps c.args.table.now.origins) c.args.kind c.args.touched c.args.operands.now c.in_err-layouts.field-0.0 c.in_err-layouts.ensures.fault)

pub returns-then-overlap-clause-fault : goal.returns-then-overlap-clause-fault
returns-then-overlap-clause-fault c =
    let maps = typemaps c.args.table.now.origins in
    overlap_first maps c.args.kind c.args.touched c.args.operands.now c.in_ok-layouts.ensures.taken
    (overlaps_laid maps c.args.kind c.args.touched c.args.operands.now c.in_ok-layouts.layouts c.overlap.result c.in_ok-layouts.ensures.ok c.overlap.ensures ∙ c.if-overlap.true)

pub returns-clause-taken : goal.returns-clause-taken
returns-clause-taken c =
    let maps = typemaps c.args.table.now.origins in
    overlap_none maps c.args.kind c.args.touched c.args.operands.now c.in_ok-layouts.ensures.taken
    (overlaps_laid maps c.args.kind c.args.touched c.args.operands.now c.in_ok-layouts.layouts c.overlap.result c.in_ok-layouts.ensures.ok c.overlap.ensures ∙ c.if-overlap.false)
