use Rattle.std.proofs.Common.{arith}
use Rattle.rma_lex.proofs.LineLemmas.{length_lines, length_lines_le}
use Rattle.rma_lex.proofs.cutter.line_count.Goals as goal

pub overflow_add-result : goal.overflow_add-result
overflow_add-result c = grind (arith, length_lines c.args.text.now, length_lines_le c.args.text.now, c.has_open_end.ensures, c.line_feed_count-ended.ensures.count)

pub returns-then-has_open_end : goal.returns-then-has_open_end
returns-then-has_open_end c = grind (arith, length_lines c.args.text.now, c.has_open_end.ensures, c.line_feed_count-ended.ensures.count)

pub returns-else-has_open_end : goal.returns-else-has_open_end
returns-else-has_open_end c = grind (arith, length_lines c.args.text.now, c.has_open_end.ensures, c.line_feed_count-ended.ensures.count)
