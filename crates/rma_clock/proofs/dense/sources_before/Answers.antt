use Rattle.std.proofs.Common.{List, length, sym, subst, arith}
use Rattle.rma_walk.specs.declared.source.Source.{Source}
use Rattle.rma_clock.specs.inside.Dense.{AreBefore}
use Rattle.rma_clock.proofs.DenseLemmas.{with_own, without_own}
use Rattle.rma_clock.proofs.dense.sources_before.Goals as goal
use Rattle.rma_clock.proofs.dense.sources_before.Goals.{then-point-gt0+in_ok-push, else-point-gt0}

pub returns : goal.returns
returns c lens links within are point =
    let q = c.args.point in
    let some = c.in_ok-sources.sources in
    let B : List Source → Type 0 = λ xs. AreBefore (length lens) links q xs in
    elim c.if-point-gt0.branch [
      | then-point-gt0+in_ok-push w ↦ subst B (sym w.sources-is) (with_own lens links within c.args.inboxes.now are q point some c.in_ok-sources.ensures w.if-point-gt0.true w.push.new.self w.in_ok-push.ensures.ok)
      | else-point-gt0 w ↦ let first = w.if-point-gt0.false in subst B (sym w.sources-is) (without_own lens links within c.args.inboxes.now are q point some c.in_ok-sources.ensures (omega arith))
    ]
