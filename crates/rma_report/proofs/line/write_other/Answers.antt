use Rattle.std.proofs.Common.{codes, decimal}
use Rattle.rma_report.proofs.BufferLemmas.{passed_text}
use Rattle.rma_report.proofs.TextLemmas.{two_numbers}
use Rattle.rma_report.proofs.line.write_other.Goals as goal

pub returns : goal.returns
returns g c =
    rw c.in-Some.is (passed_text _ _ _ _ _ _ _ (two_numbers (codes " with rank ") c.format.result.now (codes " line ") c.format-2.result.now (codes "\n") (decimal c.in-Some.rank.0) (decimal c.in-Some.line.0) c.format.ensures.text c.format-2.ensures.text) c.write_all.ensures)
