use Rattle.std.proofs.Common.{◌≡◌, pos, to_z, of_z, ap, ◌∙◌, arith}
use Rattle.rma_typemap.proofs.Words.{w128, ints}
use Rattle.rma_typemap.proofs.SummaryLemmas.{summary_single}
use Rattle.rma_typemap.proofs.summary.Summary.single.Goals as goal

pub returns : goal.returns
returns c =
    let kept : to_z w128 (of_z w128 c.from-end.result) ≡ c.from-end.result = omega (arith, ints) in
    summary_single c.args.basic c.size-size.result (to_z w128 (of_z w128 c.from-end.result)) c.size-size.ensures
    (kept ∙ c.from-end.ensures ∙ ap pos c.size-size.ensures)
