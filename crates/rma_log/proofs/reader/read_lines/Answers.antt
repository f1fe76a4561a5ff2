use Rattle.std.proofs.Common.{◌∙◌}
use Rattle.rma_log.proofs.reader.read_lines.Goals as goal

pub lines-preserved : goal.lines-preserved
lines-preserved c = (
  λ rank logs text h. c.in_ok-read_next.ensures.read rank logs text (c.lines.invariant.0 rank logs text h),
  c.in_ok-read_next.ensures.closed ∙ c.lines.invariant.1,
  c.in_ok-read_next.ensures.fed ∙ c.lines.invariant.2,
)

pub returns-clause-read : goal.returns-clause-read
returns-clause-read c = λ rank logs text h. c.in_ok-read_next.ensures.read rank logs text (c.lines.invariant.0 rank logs text h)
