use Rattle.std.proofs.Common.{◌≡◌, sym, ◌∙◌}
use Rattle.rma_layout.proofs.Words.{Decides-int_eq, false≢true}
use Rattle.rma_typemap.proofs.BlocksLemmas.{gap_same, gap_other}
use Rattle.rma_layout.proofs.output.begins.Goals as goal

pub returns-in-Some-clause-value : goal.returns-in-Some-clause-value
returns-in-Some-clause-value c =
    let end = c.in-Some.end in
    let same : end ≡ c.args.block.start = (Decides-int_eq end c.args.block.start).0 (sym c.is.ensures ∙ c.if-is.true) in
    rw c.in-Some.is (sym (gap_same end c.args.block.start (sym same)))

pub returns-in-Some-2-clause-value : goal.returns-in-Some-2-clause-value
returns-in-Some-2-clause-value c =
    let end = c.in-Some.end in
    rw c.in-Some.is (sym (gap_other end c.args.block.start
    (λ same. false≢true (sym c.if-is.false ∙ c.is.ensures ∙ (Decides-int_eq end c.args.block.start).1 (sym same)))))
