use Rattle.std.proofs.Common.{bit_and, refl, ◌∙◌, arith}
use Rattle.std.proofs.lemmas.Nat.Bits.{bit_at-lt}
use Rattle.rma_lex.specs.inside.Blank.{blank_at}
use Rattle.rma_lex.specs.inside.Mask.{Marks}
use Rattle.rma_lex.proofs.EdgeLemmas.{Reaches_front, Marks_edges, first_bit}
use Rattle.rma_lex.proofs.edge.Edges.new.Goals as goal
use Rattle.rma_lex.proofs.edge.Edges.new.Goals.{then-line-lt64, else-line-lt64}

pub returns-clause-reaches : goal.returns-clause-reaches
returns-clause-reaches c =
    let line = c.args.line.now in
    let blanks = c.if-line-lt64.blanks in
    let marks : Marks (blank_at line) 0 blanks 0 64 = elim c.if-line-lt64.branch [
      | then-line-lt64 w ↦ rw w.blanks-is w.blanks_of_short_line-blanks.ensures
      | else-line-lt64 w ↦ rw w.blanks-is w.blanks_of_block-blanks.ensures
    ] in
    Reaches_front line _ refl refl refl
    (Marks_edges line 0 blanks (bit_and blanks 1) _ marks (first_bit blanks ∙ grind (arith, marks 0, bit_at-lt blanks 0)) (omega arith) c.edges_between.ensures.lowest c.edges_between.ensures.others)
