use Rattle.std.proofs.Common.{arith, drop}
use Rattle.std.proofs.lemmas.List.{length-drop, take_rest}
use Rattle.rma_lex.specs.inside.Kept.{cutting_of}
use Rattle.rma_lex.proofs.LineLemmas.{length_lines_le}
use Rattle.rma_lex.proofs.CutterLemmas.{length_Represents}
use Rattle.rma_lex.proofs.cutter.LineCutter.lines.Goals as goal

pub overflow_add-result : goal.overflow_add-result
overflow_add-result c =
    let i = c.self.inside in
    let counts = rw (c.deref.ensures.value, take_rest) at c.line_count.ensures in
    record { fits = omega (arith, counts, length_lines_le (drop i.feeds.start i.text.items), length-drop i.feeds.start i.text.items) }

pub returns-clause-text : goal.returns-clause-text
returns-clause-text c text represents =
    let counts = rw (c.deref.ensures.value, take_rest) at c.line_count.ensures in
    omega (arith, counts, length_Represents (cutting_of c.self.inside) text (rw (← c.self.view_is) at represents))

pub returns-clause-bound : goal.returns-clause-bound
returns-clause-bound c =
    let i = c.self.inside in
    let counts = rw (c.deref.ensures.value, take_rest) at c.line_count.ensures in
    omega (arith, counts, length_lines_le (drop i.feeds.start i.text.items), length-drop i.feeds.start i.text.items)
