use Rattle.std.proofs.Common.{codes, decimal}
use Rattle.rma_report.proofs.BufferLemmas.{passed_text}
use Rattle.rma_report.proofs.TextLemmas.{two_numbers}
use Rattle.rma_report.proofs.line.write_header.Goals as goal

pub returns : goal.returns
returns g c =
    passed_text _ _ _ _ _ _ _ (two_numbers (codes "rmaudit 1 ranks ") c.format.result.now (codes " lines ") c.format-2.result.now (codes "\n") (decimal c.args.ranks) (decimal c.args.lines) c.format.ensures.text c.format-2.ensures.text) c.write_all.ensures
