use Rattle.rma_type.specs.Table.{typemaps}
use Rattle.rma_buffer.proofs.PlacedLemmas.{all_laid_out, no_reason}
use Rattle.rma_buffer.proofs.layouts.all_layouts.Goals as goal

pub returns-clause-ok : goal.returns-clause-ok
returns-clause-ok c =
    all_laid_out (typemaps c.args.table.now.origins) c.args.kind c.args.touched c.args.operands.now
    c.in_ok-target.target c.in_ok-origin.origin c.in_ok-result.result c.in_ok-compare.compare
    c.in_ok-target.ensures.placed (rw c.place_at_target.ensures.same at c.in_ok-origin.ensures.placed)
    (rw (c.place_origin.ensures.same, c.place_at_target.ensures.same) at c.in_ok-result.ensures.placed)
    (rw (c.place_if.ensures.same, c.place_origin.ensures.same, c.place_at_target.ensures.same) at c.in_ok-compare.ensures.placed)

pub returns-clause-taken : goal.returns-clause-taken
returns-clause-taken c =
    no_reason (typemaps c.args.table.now.origins) c.args.kind c.args.touched c.args.operands.now
    c.in_ok-target.target c.in_ok-origin.origin c.in_ok-result.result c.in_ok-compare.compare
    c.in_ok-target.ensures.placed (rw c.place_at_target.ensures.same at c.in_ok-origin.ensures.placed)
    (rw (c.place_origin.ensures.same, c.place_at_target.ensures.same) at c.in_ok-result.ensures.placed)
    (rw (c.place_if.ensures.same, c.place_origin.ensures.same, c.place_at_target.ensures.same) at c.in_ok-compare.ensures.placed)
    c.requires.few
