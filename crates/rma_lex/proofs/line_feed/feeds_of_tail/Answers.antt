use Rattle.std.proofs.Common.{length, get_or, eqb, refl, sym, ap, ◌∙◌, arith}
use Rattle.std.proofs.lemmas.Bool.{eq-eqb, ne_eqb}
use Rattle.std.proofs.lemmas.List.{length-drop, get_or-drop, take_rest}
use Rattle.rma_lex.proofs.MarkLemmas.{Marks_more, Marks_skip}
use Rattle.rma_lex.proofs.line_feed.feeds_of_tail.Goals as goal
use Rattle.rma_lex.proofs.line_feed.feeds_of_tail.Goals.{then-byte-eq10, else-byte-eq10}

pub loop-k-preserved : goal.loop-k-preserved
loop-k-preserved c =
    let text = c.args.text.now in
    let from = c.args.from in
    let k = c.loop-k.k in
    let long = ap length (take_rest text from) in
    let reads = ap (λ t. get_or t k 0) (take_rest text from) ∙ get_or-drop from text k 0 in
    elim c.if-byte-eq10.branch [
      | then-byte-eq10 w ↦ rw w.mask-is (Marks_more (λ at. eqb (get_or text at 0) 10) from c.loop-k.mask k _ _ c.loop-k.invariant refl (omega arith) (omega (arith, length-drop from text)) (eq-eqb _ 10 (sym reads ∙ w.if-byte-eq10.true)))
      | else-byte-eq10 w ↦ rw w.mask-is (Marks_skip (λ at. eqb (get_or text at 0) 10) from c.loop-k.mask k _ _ c.loop-k.invariant refl (omega arith) (ne_eqb _ 10 (λ feed. w.if-byte-eq10.false (reads ∙ feed))))
    ]
