use Rattle.std.proofs.Common.{sym, ap, ◌∙◌, refl, arith}
use Rattle.std.proofs.lemmas.List.{get_or_default}
use Rattle.rma_lex.specs.inside.Blank.{blank_at}
use Rattle.rma_lex.specs.Field.{is_blank}
use Rattle.rma_lex.proofs.MarkLemmas.{Marks_more, Marks_skip}
use Rattle.rma_lex.proofs.blank.blanks_one_by_one.Goals as goal
use Rattle.rma_lex.proofs.blank.blanks_one_by_one.Goals.{then-is_blank, else-is_blank}

pub loop-k-preserved : goal.loop-k-preserved
loop-k-preserved c =
    let line = c.args.line.now in
    let k = c.loop-k.k in
    let reads = ap is_blank (get_or_default line k 32 0 (omega arith)) ∙ sym c.is_blank.ensures in
    elim c.if-is_blank.branch [
      | then-is_blank w ↦ rw w.mask-is (Marks_more (blank_at line) 0 c.loop-k.mask k k _ c.loop-k.invariant (omega arith) refl (omega arith) (reads ∙ w.if-is_blank.true))
      | else-is_blank w ↦ rw w.mask-is (Marks_skip (blank_at line) 0 c.loop-k.mask k k _ c.loop-k.invariant (omega arith) refl (reads ∙ w.if-is_blank.false))
    ]
